use Rattle.std.proofs.Common.{sym, subst, ap, ◌∙◌, ◌++◌}
use Rattle.dt_propagate.specs.Marks.{DifferNear}
use Rattle.dt_propagate.specs.GoneThrough.{all_arities, told_of_all}
use Rattle.dt_propagate.specs.Walk.{told_change}
use Rattle.dt_propagate.proofs.AllDifferences.{differences_are}
use Rattle.dt_propagate.proofs.differences.differences.Goals as goal

pub push_touched-requires : goal.push_touched-requires
push_touched-requires g c =
    subst (λ keys. DifferNear c.args.old.now c.args.new.now keys c.args.site.now.edited) (sym c.deref.ensures.value) c.requires

pub returns-clause-differences : goal.returns-clause-differences
returns-clause-differences g c =
    let old = c.args.old.now in
    let new = c.args.new.now in
    differences_are old new c.push_touched.new.out.changes.items c.requires.old_lawful c.requires.new_lawful
    (c.in_ok-push_touched.ensures.told ∙ ap (λ xs. xs ++ told_of_all (told_change old new) all_arities) c.new.ensures.items)
