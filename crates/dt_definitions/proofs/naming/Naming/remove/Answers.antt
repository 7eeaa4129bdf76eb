use Rattle.std.proofs.Common.{sym, ◌∙◌}
use Rattle.dt_graph.proofs.InOrder.{Ascends-filter, without_none}
use Rattle.dt_definitions.specs.Program.{is_key_before, is_same_key}
use Rattle.dt_definitions.specs.Naming.{itself}
use Rattle.dt_definitions.specs.declared.definition_key.DefinitionKey.{DefinitionKey}
use Rattle.dt_definitions.proofs.DefinitionOrder.{key_order}
use Rattle.dt_definitions.proofs.Searching.{remove_found}
use Rattle.dt_definitions.proofs.naming.Naming.remove.Goals as goal

pub invariant_of-self : goal.invariant_of-self
invariant_of-self c =
    let k : DefinitionKey = record { selector = c.args.selector; classes = c.args.classes.now } in
    let keys = c.self.inside.keys.items in
    let found = rw c.deref.ensures.value at c.in-Ok.ensures in
    rw (c.remove.ensures.items, remove_found itself is_key_before is_same_key key_order k keys c.in-Ok.place k c.self.invariant found)
    (Ascends-filter itself is_key_before is_same_key key_order _ keys c.self.invariant)

pub returns-in-Ok-clause-keys : goal.returns-in-Ok-clause-keys
returns-in-Ok-clause-keys c =
    let k : DefinitionKey = record { selector = c.args.selector; classes = c.args.classes.now } in
    let found = rw c.deref.ensures.value at c.in-Ok.ensures in
    rw (← c.self.view_is)
    (c.remove.ensures.items ∙ remove_found itself is_key_before is_same_key key_order k c.self.inside.keys.items c.in-Ok.place k c.self.invariant found)

pub returns-in-Err-clause-keys : goal.returns-in-Err-clause-keys
returns-in-Err-clause-keys c =
    let k : DefinitionKey = record { selector = c.args.selector; classes = c.args.classes.now } in
    let absent = rw c.deref.ensures.value at c.in-Err.ensures in
    rw (← c.self.view_is) (sym (without_none itself is_key_before is_same_key key_order k c.self.inside.keys.items absent.1))
