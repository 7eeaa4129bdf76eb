use Rattle.std.proofs.Common.{◌≤◌, length, ap, ◌∙◌}
use Rattle.dt_definitions.specs.Program.{are_classes_before, same_classes}
use Rattle.dt_definitions.specs.SelectorLists.{classes_at, are_same}
use Rattle.dt_definitions.specs.Search.{first_place}
use Rattle.dt_definitions.proofs.ListOrder.{class_order}
use Rattle.dt_definitions.proofs.Searching.{found_read, absent_read, absent_end}
use Rattle.dt_definitions.proofs.selector_definitions.search.Goals as goal

pub returns-in_default : goal.returns-in_default
returns-in_default c =
    let past = (rw c.in_default.is at c.get.ensures.lookup).3 in
    let end : length c.args.row.now ≤ first_place classes_at are_classes_before c.args.classes.now c.args.row.now = rw c.place_in-place.ensures at past in
    (c.place_in-place.ensures, absent_end classes_at are_classes_before are_same class_order c.args.classes.now c.args.row.now end)

pub returns-else-is_same : goal.returns-else-is_same
returns-else-is_same c =
    let read = c.in-Some.ensures.lookup in
    absent_read classes_at are_classes_before are_same class_order c.args.classes.now c.args.row.now c.place_in-place.result c.in-Some.defined.now
    c.requires c.place_in-place.ensures read.3.0 read.1
    (c.if-is_same.ensures ∙ ap (λ classes. same_classes classes c.args.classes.now) c.classes.ensures.value)

pub returns-then-is_same : goal.returns-then-is_same
returns-then-is_same c =
    let read = c.in-Some.ensures.lookup in
    found_read classes_at are_classes_before are_same class_order c.args.classes.now c.args.row.now c.place_in-place.result c.in-Some.defined.now
    c.requires c.place_in-place.ensures read.3.0 read.1
    (c.if-is_same.ensures ∙ ap (λ classes. same_classes classes c.args.classes.now) c.classes.ensures.value)
