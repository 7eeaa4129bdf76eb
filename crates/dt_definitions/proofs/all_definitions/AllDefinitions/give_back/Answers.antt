use Rattle.dt_definitions.proofs.DefinitionChanges.{kept_same, kept_lists}
use Rattle.dt_definitions.proofs.all_definitions.AllDefinitions.give_back.Goals as goal

pub invariant_of-self : goal.invariant_of-self
invariant_of-self c =
    kept_lists c.give_back_in.new.rows.items c.self.inside.count c.self.inside.index c.give_back.new.self
    (kept_same c.self.inside.rows.items c.give_back_in.new.rows.items c.self.inside.count c.self.inside.index c.self.invariant
    c.give_back_in.ensures.all_selectors c.give_back_in.ensures.stay) c.give_back.ensures
