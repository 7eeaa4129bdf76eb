use Rattle.dt_definitions.specs.Program.{Definition}
use Rattle.dt_definitions.proofs.DefinitionChanges.{kept_put_again}
use Rattle.dt_definitions.proofs.all_definitions.AllDefinitions.put_again.Goals as goal

pub invariant_of-self-2 : goal.invariant_of-self-2
invariant_of-self-2 c =
    let d : Definition = record { selector = c.args.selector; classes = c.args.classes; body = c.args.body } in
    let there = rw (← c.self.view_is) at c.requires in
    kept_put_again c.self.inside.rows.items c.put_in.new.rows.items c.self.inside.count c.self.inside.index c.self.invariant
    c.in_ok-_is_new.ensures.all_selectors d c.in_ok-_is_new.ensures.ok there
