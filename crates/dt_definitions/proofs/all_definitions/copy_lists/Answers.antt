use Rattle.std.proofs.Common.{◌∷◌, [], ◌++◌, take, sym, ap, ◌∙◌, arith}
use Rattle.std.proofs.lemmas.List.{take_more}
use Rattle.dt_definitions.proofs.DefinitionChanges.{same_push}
use Rattle.dt_definitions.proofs.all_definitions.copy_lists.Goals as goal

pub loop-row-preserved : goal.loop-row-preserved
loop-row-preserved c =
    let rows = c.deref-row-items.result.now in
    let more = take_more rows c.loop-row.row-index c.row-item.result (omega arith) ∙ ap (λ row. take c.loop-row.row-index rows ++ row ∷ []) (sym c.row-item.is) in
    rw (more, c.in_ok-push.ensures.items)
    (same_push (take c.loop-row.row-index rows) c.loop-row.copy.items c.row-item.result c.in_ok-copy-2.field-0 c.loop-row.invariant c.in_ok-copy-2.ensures)
