use Rattle.std.proofs.Common.{arith, ◌∙◌}
use Rattle.dt_graph.proofs.InOrder.{Ascends-insert}
use Rattle.dt_definitions.specs.Program.{is_key_before, is_same_key}
use Rattle.dt_definitions.specs.Naming.{itself}
use Rattle.dt_definitions.proofs.DefinitionOrder.{key_order}
use Rattle.dt_definitions.proofs.Searching.{put_found, put_absent, absent_within}
use Rattle.dt_definitions.proofs.naming.Naming.insert.Goals as goal

pub invariant_of-self : goal.invariant_of-self
invariant_of-self c =
    let keys = c.self.inside.keys.items in
    let found = rw (c.deref.ensures.value, c.classes.ensures.value) at c.in-Ok.ensures in
    rw (put_found itself is_key_before is_same_key key_order c.args.key.now keys c.in-Ok.place found)
    (Ascends-insert itself is_key_before is_same_key key_order c.args.key.now keys c.self.invariant)

pub insert-requires : goal.insert-requires
insert-requires c =
    let absent = rw (c.deref.ensures.value, c.classes.ensures.value) at c.in-Err.ensures in
    omega (
      arith,
      c.self.inside.keys.ok.0,
      absent_within itself is_key_before is_same_key key_order c.args.key.now c.self.inside.keys.items c.in-Err.place absent,
    )

pub invariant_of-self-else-is_err : goal.invariant_of-self-else-is_err
invariant_of-self-else-is_err c =
    let keys = c.self.inside.keys.items in
    let absent = rw (c.deref.ensures.value, c.classes.ensures.value) at c.in-Err.ensures in
    let items = rw c.if-is_err.ensures.negation at c.insert.ensures.items in
    rw (items, put_absent itself is_key_before is_same_key key_order c.args.key.now keys c.in-Err.place absent)
    (Ascends-insert itself is_key_before is_same_key key_order c.args.key.now keys c.self.invariant)

pub returns-in-Ok-clause-keys : goal.returns-in-Ok-clause-keys
returns-in-Ok-clause-keys c =
    let found = rw (c.deref.ensures.value, c.classes.ensures.value) at c.in-Ok.ensures in
    rw (← c.self.view_is) (put_found itself is_key_before is_same_key key_order c.args.key.now c.self.inside.keys.items c.in-Ok.place found)

pub returns-else-is_err-clause-keys : goal.returns-else-is_err-clause-keys
returns-else-is_err-clause-keys c =
    let absent = rw (c.deref.ensures.value, c.classes.ensures.value) at c.in-Err.ensures in
    let items = rw c.if-is_err.ensures.negation at c.insert.ensures.items in
    rw (← c.self.view_is) (items ∙ put_absent itself is_key_before is_same_key key_order c.args.key.now c.self.inside.keys.items c.in-Err.place absent)
