use Rattle.dt_definitions.proofs.all_definitions.AllDefinitions.naming.Goals as goal

pub returns : goal.returns
returns c = rw (c.of.ensures.value, ← c.self.view_is) (c.self.invariant.named c.args.class c.of.ensures.in_range)
