use Rattle.dt_definitions.specs.Differing.{edited_classes, redefined_keys}
use Rattle.std.proofs.Common.{sym, subst}
use Rattle.dt_propagate.specs.Marks.{DifferNear}
use Rattle.dt_propagate.proofs.DifferNear.{differ_near}
use Rattle.dt_propagate.proofs.site.find_site.Goals as goal

pub returns : goal.returns
returns c =
    let old = c.args.old.now in
    let new = c.args.new.now in
    let batch = c.args.batch.now in
    subst (λ keys. DifferNear old new keys c.in_ok-edited.edited) (sym c.in_ok-keys.ensures)
    (differ_near old new (redefined_keys batch) (edited_classes batch) c.in_ok-edited.edited c.law.ensures.lawful c.law-2.ensures.lawful
    c.others_stay_below.ensures.others (c.batches_differ_where_they_say.ensures.differ old new batch c.requires) c.in_ok-edited.ensures)
