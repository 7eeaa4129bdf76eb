use Rattle.std.proofs.Common.{sym, ◌∙◌}
use Rattle.std.proofs.lemmas.Result.{IfOk-weaker}
use Rattle.dt_pages.specs.Image.{look_up}
use Rattle.dt_pages.specs.Draft.{laid_over}
use Rattle.dt_fit.specs.Cells.{is_tried}
use Rattle.dt_placing.specs.Turn.{IsOver}
use Rattle.dt_placing.specs.Staying.{IsChangedInPlace}
use Rattle.dt_placing.proofs.Turn.{turn_over}
use Rattle.dt_placing.proofs.InPlace.{stay_done}
use Rattle.dt_placing.proofs.selector_turn.take_turn.Goals as goal

pub returns-then-can_stay-clause-over : goal.returns-then-can_stay-clause-over
returns-then-can_stay-clause-over c =
    let x = look_up c.args.tree.now in
    let d = laid_over c.args.draft.now x in
    let now = laid_over c.stay.new.draft x in
    let tried = is_tried c.args.cells.now in
    let after = is_tried c.stay.new.cells in
    IfOk-weaker c.stay.result
    (λ word. IsChangedInPlace c.args.geometry x c.args.selector c.args.before c.args.own.now word d now tried after)
    (λ word. IsOver c.args.geometry x c.args.own.now c.args.selector c.args.before word d now tried after)
    (λ word made. turn_over c.requires.turn.2 (λ held done can. stay_done can (sym c.can_stay.ensures ∙ c.if-can_stay.true) word now after made))
    c.stay.ensures.changed
