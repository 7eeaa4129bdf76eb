use Rattle.std.proofs.Common.{arith, ◌∙◌, ap}
use Rattle.dt_graph.proofs.InOrder.{Ascends-insert}
use Rattle.dt_definitions.specs.Program.{are_classes_before}
use Rattle.dt_definitions.specs.SelectorLists.{classes_at, are_same, with_selector}
use Rattle.dt_definitions.specs.declared.defined.Defined.{Defined}
use Rattle.dt_definitions.proofs.ListOrder.{class_order, put_in_row}
use Rattle.dt_definitions.proofs.Searching.{put_found, put_absent, absent_within}
use Rattle.dt_definitions.proofs.selector_definitions.SelectorDefinitions.put.Goals as goal

pub invariant_of-self : goal.invariant_of-self
invariant_of-self c =
    let new : Defined = record { classes = c.args.classes; body = c.args.body } in
    let row = c.self.inside.defined.items in
    let found = rw (c.deref.ensures.value, c.classes.ensures.value) at c.in-Ok.ensures in
    rw (put_found classes_at are_classes_before are_same class_order new row c.in-Ok.place found)
    (Ascends-insert classes_at are_classes_before are_same class_order new row c.self.invariant)

pub insert-requires : goal.insert-requires
insert-requires c =
    let absent = rw (c.deref.ensures.value, c.classes.ensures.value) at c.in-Err.ensures in
    omega (
      arith,
      c.self.inside.defined.ok.0,
      absent_within classes_at are_classes_before are_same class_order c.args.classes c.self.inside.defined.items c.in-Err.place absent,
    )

pub invariant_of-self-in-Err : goal.invariant_of-self-in-Err
invariant_of-self-in-Err c =
    let new : Defined = record { classes = c.args.classes; body = c.args.body } in
    let row = c.self.inside.defined.items in
    let absent = rw (c.deref.ensures.value, c.classes.ensures.value) at c.in-Err.ensures in
    rw (c.in_ok-insert-in-Err.ensures.items, put_absent classes_at are_classes_before are_same class_order new row c.in-Err.place absent)
    (Ascends-insert classes_at are_classes_before are_same class_order new row c.self.invariant)

pub returns-in-Ok-clause-ok : goal.returns-in-Ok-clause-ok
returns-in-Ok-clause-ok c = λ s.
    let new : Defined = record { classes = c.args.classes; body = c.args.body } in
    let found = rw (c.deref.ensures.value, c.classes.ensures.value) at c.in-Ok.ensures in
    rw (← c.self.view_is)
    (ap (with_selector s) (put_found classes_at are_classes_before are_same class_order new c.self.inside.defined.items c.in-Ok.place found)
    ∙ put_in_row s new c.self.inside.defined.items)

pub returns-in_ok-insert-in-Err-clause-ok : goal.returns-in_ok-insert-in-Err-clause-ok
returns-in_ok-insert-in-Err-clause-ok c = λ s.
    let new : Defined = record { classes = c.args.classes; body = c.args.body } in
    let absent = rw (c.deref.ensures.value, c.classes.ensures.value) at c.in-Err.ensures in
    rw (c.in_ok-insert-in-Err.ensures.items, ← c.self.view_is)
    (ap (with_selector s) (put_absent classes_at are_classes_before are_same class_order new c.self.inside.defined.items c.in-Err.place absent)
    ∙ put_in_row s new c.self.inside.defined.items)
