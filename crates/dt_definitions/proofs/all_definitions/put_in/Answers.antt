use Rattle.std.proofs.Common.{◌≡◌, not, is_some, is_none, sym, ap, ◌∙◌, arith}
use Rattle.std.specs.List.{list_any}
use Rattle.std.proofs.lemmas.Result.{on_ok_weaker, on_err_weaker, IfOk-weaker}
use Rattle.dt_definitions.specs.Program.{Definition, is_definition}
use Rattle.dt_definitions.specs.SelectorLists.{definitions_from, body_in}
use Rattle.dt_definitions.proofs.Lists.{insert_row}
use Rattle.dt_definitions.proofs.DefinitionChanges.{same_row, room_grows, room_in, body_from_rows, some_body, none_body}
use Rattle.dt_definitions.proofs.all_definitions.put_in.Goals as goal

pub returns-clause-ok : goal.returns-clause-ok
returns-clause-ok c =
    let d : Definition = record { selector = c.args.selector; classes = c.args.classes; body = c.args.body } in
    on_ok_weaker c.put.result
    (λ h. insert_row c.args.rows.now.items 0 c.number.result d c.index_mut.result.now c.put.new.self
    (omega (arith, c.number.ensures.value)) (omega (arith, c.requires, c.number.ensures.in_range)) c.index_mut.ensures.value (h c.args.selector))
    c.put.ensures.ok

pub returns-clause-is_new : goal.returns-clause-is_new
returns-clause-is_new c =
    let rows = c.args.rows.now.items in
    let row = c.index_mut.result.now in
    let same = body_from_rows rows c.number.result c.args.selector c.args.classes row
    (sym c.number.ensures.value) (omega (arith, c.requires, c.number.ensures.in_range)) c.index_mut.ensures.value in
    let there = ap is_some same ∙ some_body c.args.selector c.args.classes (definitions_from 0 rows) in
    IfOk-weaker c.put.result
    (λ is_new. is_new ≡ is_none (body_in row.defined c.args.classes))
    (λ is_new. is_new ≡ not (list_any (is_definition c.args.selector c.args.classes) (definitions_from 0 rows)))
    (λ is_new h. h ∙ none_body (body_in row.defined c.args.classes) ∙ ap not there)
    c.put.ensures.is_new

pub returns-clause-err : goal.returns-clause-err
returns-clause-err c =
    on_err_weaker c.put.result
    (λ h. same_row c.args.rows.now.items 0 c.number.result c.index_mut.result.now c.put.new.self c.index_mut.ensures.value h)
    c.put.ensures.err

pub returns-clause-room_stays : goal.returns-clause-room_stays
returns-clause-room_stays c = λ s.
    room_grows c.args.rows.now.items c.number.result c.index_mut.result.now c.put.new.self c.index_mut.ensures.value c.put.ensures.room_stays s

pub returns-clause-succeeds : goal.returns-clause-succeeds
returns-clause-succeeds c = λ room.
    c.put.ensures.succeeds
    (room_in c.args.rows.now.items c.number.result c.args.selector c.args.classes c.index_mut.result.now (sym c.number.ensures.value)
    (omega (arith, c.requires, c.number.ensures.in_range)) c.index_mut.ensures.value room)
