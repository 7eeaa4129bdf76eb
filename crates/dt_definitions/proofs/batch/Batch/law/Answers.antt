use Rattle.std.proofs.Common.{◌∷◌, [], ◌++◌, take, sym, ap, ◌∙◌, arith}
use Rattle.std.proofs.lemmas.List.{take_more}
use Rattle.dt_definitions.proofs.Histories.{in_range_push}
use Rattle.dt_definitions.proofs.batch.Batch.law.Goals as goal

pub loop-edit-preserved : goal.loop-edit-preserved
loop-edit-preserved c =
    let edits = c.deref-edit-items.result.now in
    let more = take_more edits c.loop-edit.edit-index c.edit-item.result (omega arith) ∙ ap (λ edit. take c.loop-edit.edit-index edits ++ edit ∷ []) (sym c.edit-item.is) in
    rw more (in_range_push (take c.loop-edit.edit-index edits) c.edit-item.result c.loop-edit.invariant c.law.ensures)
