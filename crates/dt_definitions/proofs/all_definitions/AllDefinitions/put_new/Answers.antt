use Rattle.std.proofs.Common.{arith}
use Rattle.dt_definitions.specs.Program.{Definition}
use Rattle.dt_definitions.proofs.DefinitionChanges.{kept_put_new, kept_lists, none_shrinks}
use Rattle.dt_definitions.proofs.all_definitions.AllDefinitions.put_new.Goals as goal

pub returns-in_err-reserve-clause-room_stays : goal.returns-in_err-reserve-clause-room_stays
returns-in_err-reserve-clause-room_stays c =
    rw (← c.self.view_is) (λ place. omega arith, none_shrinks c.self.inside.index c.reserve.new.self c.reserve.ensures.room_stays)

pub returns-in_err-_is_new-clause-room_stays : goal.returns-in_err-_is_new-clause-room_stays
returns-in_err-_is_new-clause-room_stays c =
    rw (← c.self.view_is) (c.put_in.ensures.room_stays, none_shrinks c.self.inside.index c.reserve.new.self c.reserve.ensures.room_stays)

pub invariant_of-self-2 : goal.invariant_of-self-2
invariant_of-self-2 c =
    let d : Definition = record { selector = c.args.selector; classes = c.args.classes; body = c.args.body } in
    let absent = rw (← c.self.view_is) at c.requires.absent in
    let rows = c.self.inside.rows.items in
    let count = c.self.inside.count in
    kept_put_new rows c.put_in.new.rows.items count c.reserve.new.self
    (kept_lists rows count c.self.inside.index c.reserve.new.self c.self.invariant c.reserve.ensures.keys)
    c.in_ok-_is_new.ensures.all_selectors d c.insert.new.self c.in_ok-_is_new.ensures.ok absent c.insert.ensures.keys

pub returns-clause-room_stays : goal.returns-clause-room_stays
returns-clause-room_stays c =
    rw (← c.self.view_is) (
      c.put_in.ensures.room_stays,
      none_shrinks c.self.inside.index c.insert.new.self
          (λ class. let a = c.reserve.ensures.room_stays class in let b = c.insert.ensures.room_stays class in omega (arith, a, b)),
    )
