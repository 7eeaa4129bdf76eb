use Rattle.std.proofs.Common.{◌<◌, length, is_some, sym, ap, ◌∙◌, set, length-set, get_or-set_same, arith}
use Rattle.dt_definitions.specs.SelectorLists.{definitions_from}
use Rattle.dt_definitions.proofs.Lists.{remove_row}
use Rattle.dt_definitions.proofs.DefinitionChanges.{room_same, room_for, body_from_rows, some_body}
use Rattle.dt_definitions.proofs.all_definitions.remove_from.Goals as goal

pub returns-clause-after : goal.returns-clause-after
returns-clause-after c =
    remove_row c.args.rows.now.items 0 c.number.result c.args.selector c.args.classes.now c.index_mut.result.now c.remove.new.self
    (omega (arith, c.number.ensures.value)) (omega (arith, c.requires, c.number.ensures.in_range)) c.index_mut.ensures.value
    (c.remove.ensures.after c.args.selector)

pub returns-clause-was_there : goal.returns-clause-was_there
returns-clause-was_there c =
    let rows = c.args.rows.now.items in
    let same = body_from_rows rows c.number.result c.args.selector c.args.classes.now c.index_mut.result.now
    (sym c.number.ensures.value) (omega (arith, c.requires, c.number.ensures.in_range)) c.index_mut.ensures.value in
    c.remove.ensures.was_there ∙ ap is_some same ∙ some_body c.args.selector c.args.classes.now (definitions_from 0 rows)

pub returns-clause-room_stays : goal.returns-clause-room_stays
returns-clause-room_stays c =
    room_same c.args.rows.now.items c.number.result c.index_mut.result.now c.remove.new.self c.index_mut.ensures.value c.remove.ensures.room_stays

pub returns-clause-room_left : goal.returns-clause-room_left
returns-clause-room_left c = λ there.
    let rows = c.args.rows.now.items in
    let within : c.number.result < length rows = omega (arith, c.requires, c.number.ensures.in_range) in
    room_for (set rows c.number.result c.remove.new.self) c.number.result c.args.selector c.args.classes.now c.remove.new.self (sym c.number.ensures.value)
    (rw length-set within) (sym (get_or-set_same rows c.number.result c.remove.new.self c.remove.new.self within)) (c.remove.ensures.room_left there)
