use Rattle.std.proofs.Common.{sym, ap}
use Rattle.std.specs.Option.{option_map}
use Rattle.dt_definitions.specs.Program.{are_classes_before}
use Rattle.dt_definitions.specs.SelectorLists.{classes_at, are_same}
use Rattle.dt_definitions.specs.declared.defined.Defined.{Defined}
use Rattle.dt_definitions.proofs.ListOrder.{class_order}
use Rattle.dt_definitions.proofs.Searching.{found_at}
use Rattle.dt_definitions.proofs.selector_definitions.SelectorDefinitions.body.Goals as goal

pub returns-in-Ok : goal.returns-in-Ok
returns-in-Ok c =
    let items = c.self.inside.defined.items in
    let found = rw c.deref.ensures.value at c.in-Ok.ensures in
    rw (← c.self.view_is) (sym (ap (option_map (λ (d : Defined). d.body))
    (found_at classes_at are_classes_before are_same class_order c.args.classes.now items c.in-Ok.place c.index.result.now c.self.invariant c.index.ensures found)))
