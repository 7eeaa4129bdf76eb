use Rattle.std.proofs.Common.{ℕ, List, get_or, ap, ◌∙◌}
use Rattle.dt_pages.specs.Image.{look_up}
use Rattle.dt_pages.specs.Draft.{laid_over}
use Rattle.dt_fit.specs.Cells.{is_tried}
use Rattle.dt_placing.proofs.Others.{others, given_room}
use Rattle.dt_placing.proofs.Turn.{turn_over}
use Rattle.dt_placing.proofs.Anew.{turn_done}
use Rattle.dt_placing.proofs.selector_turn.place_row.Goals as goal

pub new_row-requires-clause-word : goal.new_row-requires-clause-word
new_row-requires-clause-word c =
    let r = c.requires.turn in
    given_room r.2

pub choose_word-requires-clause-word : goal.choose_word-requires-clause-word
choose_word-requires-clause-word c =
    let r = c.requires.turn in
    given_room r.2

pub choose_word-requires-clause-others : goal.choose_word-requires-clause-others
choose_word-requires-clause-others c =
    let r = c.requires.turn in
    others r.2

pub lay_turn-requires-clause-before : goal.lay_turn-requires-clause-before
lay_turn-requires-clause-before c =
    let r = c.requires.turn in
    given_room r.2

pub lay_turn-requires-clause-selector : goal.lay_turn-requires-clause-selector
lay_turn-requires-clause-selector c = c.requires.turn.2.range

pub returns-clause-over : goal.returns-clause-over
returns-clause-over c =
    let x = look_up c.args.tree.now in
    let row = c.as_slice-row.result.now in
    turn_over c.requires.turn.2 (λ held done can. turn_done can
    c.in_ok-word.word row (laid_over c.lay_turn.new.draft x) (is_tried c.choose_word.new.cells) (is_tried c.take_row.new.cells)
    (record { frees = c.in_ok-word.ensures.frees; anew = c.in_ok-lay_turn.ensures; takes = c.in_ok-take_row.ensures.tried })
    (λ h own class below. ap (λ (l : List ℕ). get_or l class 0) c.as_slice-row.ensures.value ∙ c.in_ok-words.ensures.words h own class below)
    c.in_ok-word.ensures.chosen c.in_ok-word.ensures.room)
