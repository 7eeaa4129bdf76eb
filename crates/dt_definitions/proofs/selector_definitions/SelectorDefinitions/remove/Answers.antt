use Rattle.std.proofs.Common.{sym, ap, ◌∙◌}
use Rattle.dt_graph.proofs.InOrder.{Ascends-filter, without_none}
use Rattle.dt_definitions.specs.Program.{are_classes_before}
use Rattle.dt_definitions.specs.SelectorLists.{classes_at, are_same, with_selector}
use Rattle.dt_definitions.specs.declared.defined.Defined.{Defined}
use Rattle.dt_definitions.proofs.ListOrder.{class_order, gone_from_row}
use Rattle.dt_definitions.proofs.Searching.{remove_found}
use Rattle.dt_definitions.proofs.selector_definitions.SelectorDefinitions.remove.Goals as goal

pub invariant_of-self : goal.invariant_of-self
invariant_of-self c =
    let row = c.self.inside.defined.items in
    let d : Defined = record { classes = c.args.classes.now; body = 0 } in
    let found = rw c.deref.ensures.value at c.in-Ok.ensures in
    rw (c.remove.ensures.items, remove_found classes_at are_classes_before are_same class_order c.args.classes.now row c.in-Ok.place d c.self.invariant found)
    (Ascends-filter classes_at are_classes_before are_same class_order _ row c.self.invariant)

pub returns-in-Ok-clause-after : goal.returns-in-Ok-clause-after
returns-in-Ok-clause-after c = λ s.
    let row = c.self.inside.defined.items in
    let d : Defined = record { classes = c.args.classes.now; body = 0 } in
    let found = rw c.deref.ensures.value at c.in-Ok.ensures in
    rw (c.remove.ensures.items, ← c.self.view_is)
    (ap (with_selector s) (remove_found classes_at are_classes_before are_same class_order c.args.classes.now row c.in-Ok.place d c.self.invariant found)
    ∙ gone_from_row s c.args.classes.now row)

pub returns-in-Err-clause-after : goal.returns-in-Err-clause-after
returns-in-Err-clause-after c = λ s.
    let row = c.self.inside.defined.items in
    let absent = rw c.deref.ensures.value at c.in-Err.ensures in
    rw (← c.self.view_is)
    (sym (ap (with_selector s) (without_none classes_at are_classes_before are_same class_order c.args.classes.now row absent.1))
    ∙ gone_from_row s c.args.classes.now row)
