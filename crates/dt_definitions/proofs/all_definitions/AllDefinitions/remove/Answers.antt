use Rattle.std.proofs.Common.{◌-◌, sym, ap, subst, ◌∙◌, arith, slice_index}
use Rattle.std.specs.Prelude.{IsSome}
use Rattle.dt_graph.specs.Graph.{has_number}
use Rattle.dt_graph.specs.InOrder.{find_at}
use Rattle.dt_definitions.specs.Naming.{itself}
use Rattle.dt_definitions.specs.Program.{Definition, key_of, is_key_before, is_same_key}
use Rattle.dt_definitions.specs.SelectorLists.{definitions_from}
use Rattle.dt_definitions.proofs.DefinitionOrder.{key_order}
use Rattle.dt_definitions.proofs.Keys.{filter-absent}
use Rattle.dt_definitions.proofs.Keys.{keys-found}
use Rattle.dt_definitions.proofs.DefinitionChanges.{kept_remove, kept_same, none_shrinks, room_of_lists}
use Rattle.dt_definitions.proofs.all_definitions.AllDefinitions.remove.Goals as goal

pub invariant_of-self : goal.invariant_of-self
invariant_of-self c =
    let d : Definition = record { selector = c.args.selector; classes = c.args.classes.now; body = 0 } in
    kept_remove c.self.inside.rows.items c.remove_from.new.rows.items c.self.inside.count c.self.inside.index c.self.invariant
    c.if-remove_from.ensures.all_selectors d c.remove.new.self c.if-remove_from.ensures.after
    (sym c.if-remove_from.ensures.was_there) c.remove.ensures.keys

pub invariant_of-self-else-remove_from : goal.invariant_of-self-else-remove_from
invariant_of-self-else-remove_from c =
    let ds = definitions_from 0 c.self.inside.rows.items in
    kept_same c.self.inside.rows.items c.remove_from.new.rows.items c.self.inside.count c.self.inside.index c.self.invariant
    c.if-remove_from.ensures.all_selectors
    (c.if-remove_from.ensures.after ∙ filter-absent _ ds (sym c.if-remove_from.ensures.was_there))

pub returns-then-remove_from-clause-room_stays : goal.returns-then-remove_from-clause-room_stays
returns-then-remove_from-clause-room_stays c =
    rw (← c.self.view_is) (
      λ place. let same = ap (λ rooms. slice_index rooms place) c.remove_from.ensures.room_stays in omega (arith, same),
      none_shrinks c.self.inside.index c.remove.new.self c.remove.ensures.room_stays,
    )

pub returns-then-remove_from-clause-room_left : goal.returns-then-remove_from-clause-room_left
returns-then-remove_from-clause-room_left c = λ there absent.
    let d : Definition = record { selector = c.args.selector; classes = c.args.classes.now; body = 0 } in
    let rows = c.self.inside.rows.items in
    let was = sym c.if-remove_from.ensures.was_there in (
      c.remove_from.ensures.room_left c.if-remove_from.true absent,
      room_of_lists c.remove_from.new.rows.items (c.self.inside.count - 1) c.remove.new.self c.args.classes.now (invariant_of-self c)
          (λ class small named. c.remove.ensures.room_left class small named
          (subst (λ keys. IsSome (find_at itself is_same_key (key_of d) keys)) (sym (c.self.invariant.named class small))
          (keys-found key_of is_key_before is_same_key key_order (λ key. has_number key.classes class) (key_of d) (definitions_from 0 rows) named was))),
    )
