use Rattle.std.proofs.Common.{◌≡◌, ◌&&◌, ℕ, is_some, option_copied, false, Option, List, sym, ap, subst, ◌∙◌}
use Rattle.slab.specs.Slab.{get}
use Rattle.dt_pages.specs.Image.{look_up}
use Rattle.dt_pages.specs.Draft.{laid_over}
use Rattle.dt_fit.specs.Cells.{is_tried}
use Rattle.dt_placing.specs.Turn.{Laid}
use Rattle.dt_mrd.specs.declared.kept_row.KeptRow.{KeptRow}
use Rattle.dt_mrd.specs.Kept.{row_at, tag_in, next_in, code_in}
use Rattle.dt_mrd.specs.Laying.{has_cell, is_among, number_at}
use Rattle.dt_mrd.specs.Midway.{HasOtherRows, Turned, given_up}
use Rattle.dt_mrd.proofs.Displacements.{are_classes, laid_same}
use Rattle.dt_mrd.proofs.Turning.{turned_of}
use Rattle.dt_mrd.proofs.row_turn.place_turn.Goals as goal

pub choose_tag-requires-clause-old : goal.choose_tag-requires-clause-old
choose_tag-requires-clause-old c = are_classes c.as_slice-old.result.now (λ class e. c.requires.old class
    (sym (ap (λ (l : List ℕ). is_among l class) c.as_slice-old.ensures.value ∙ c.in_ok-listed_old.ensures class ∙ ap (λ (r : Option KeptRow). is_some (next_in r class)) c.row_at-was.ensures) ∙ e))

pub choose_tag-requires-clause-new : goal.choose_tag-requires-clause-new
choose_tag-requires-clause-new c = are_classes c.as_slice-new.result.now (λ class e. c.requires.new class
    (sym (ap (λ (l : List ℕ). is_among l class) c.as_slice-new.ensures.value ∙ c.in_ok-listed_new.ensures class ∙ ap (λ (r : Option KeptRow). is_some (next_in r class)) c.row_at-row.ensures) ∙ e))

pub choose_tag-requires-clause-rows : goal.choose_tag-requires-clause-rows
choose_tag-requires-clause-rows c = λ freed laid.
    let rows = get c.args.rows.now in
    let old : Option KeptRow = row_at rows c.args.turn.now.old in
    let new : Option KeptRow = row_at rows c.args.turn.now.new in
    let tags : c.tag_in-before.result ≡ tag_in old = c.tag_in-before.ensures ∙ ap tag_in c.row_at-was.ensures in
    let test : (class : ℕ) → (is_among c.as_slice-old.result.now class && is_some (next_in (option_copied c.row_at-row.result) class)) ≡ (has_cell old class && has_cell new class)
    = (λ class. ap (λ b. b && is_some (next_in (option_copied c.row_at-row.result) class))
    (ap (λ (l : List ℕ). is_among l class) c.as_slice-old.ensures.value ∙ c.in_ok-listed_old.ensures class ∙ ap (λ (r : Option KeptRow). is_some (next_in r class)) c.row_at-was.ensures)
    ∙ ap (λ (r : Option KeptRow). has_cell old class && is_some (next_in r class)) c.row_at-row.ensures) in
    subst (λ t. HasOtherRows freed (given_up (is_tried c.args.taken.now) t)) (sym tags)
    (c.requires.rows freed (laid_same (number_at (tag_in old)) _ (λ class. has_cell old class && has_cell new class) (λ class. false) (is_tried c.args.cells.now) freed test
    (subst (λ t. Laid (number_at t) (λ class. is_among c.as_slice-old.result.now class && is_some (next_in (option_copied c.row_at-row.result) class)) (λ class. false) 2048 (is_tried c.args.cells.now) freed) tags laid)))

pub lay_turn-requires-clause-old : goal.lay_turn-requires-clause-old
lay_turn-requires-clause-old c = are_classes c.as_slice-old.result.now (λ class e. c.requires.old class
    (sym (ap (λ (l : List ℕ). is_among l class) c.as_slice-old.ensures.value ∙ c.in_ok-listed_old.ensures class ∙ ap (λ (r : Option KeptRow). is_some (next_in r class)) c.row_at-was.ensures) ∙ e))

pub lay_turn-requires-clause-new : goal.lay_turn-requires-clause-new
lay_turn-requires-clause-new c = are_classes c.as_slice-new.result.now (λ class e. c.requires.new class
    (sym (ap (λ (l : List ℕ). is_among l class) c.as_slice-new.ensures.value ∙ c.in_ok-listed_new.ensures class ∙ ap (λ (r : Option KeptRow). is_some (next_in r class)) c.row_at-row.ensures) ∙ e))

pub returns-clause-turned : goal.returns-clause-turned
returns-clause-turned c =
    let x = look_up c.args.tree.now in
    let rows = get c.args.rows.now in
    let old : Option KeptRow = row_at rows c.args.turn.now.old in
    let new : Option KeptRow = row_at rows c.args.turn.now.new in
    let tags : c.tag_in-before.result ≡ tag_in old = c.tag_in-before.ensures ∙ ap tag_in c.row_at-was.ensures in
    let was : (class : ℕ) → is_among c.as_slice-old.result.now class ≡ has_cell old class
    = (λ class. ap (λ (l : List ℕ). is_among l class) c.as_slice-old.ensures.value ∙ c.in_ok-listed_old.ensures class ∙ ap (λ (r : Option KeptRow). is_some (next_in r class)) c.row_at-was.ensures) in
    subst (λ t. Turned t c.in_ok-tag.tag (has_cell old) (has_cell new) (λ class. code_in rows (next_in new class)) (is_tried c.args.cells.now) (is_tried c.args.taken.now) (laid_over c.args.draft.now x)
    (is_tried c.choose_tag.new.cells) (is_tried c.choose_tag.new.taken) (laid_over c.lay_turn.new.draft x)) tags
    (subst (λ (r : Option KeptRow). Turned c.tag_in-before.result c.in_ok-tag.tag (has_cell old) (has_cell new) (λ class. code_in rows (next_in r class)) (is_tried c.args.cells.now) (is_tried c.args.taken.now) (laid_over c.args.draft.now x)
    (is_tried c.choose_tag.new.cells) (is_tried c.choose_tag.new.taken) (laid_over c.lay_turn.new.draft x)) c.row_at-row.ensures
    (turned_of c.tag_in-before.result c.in_ok-tag.tag (λ class. is_among c.as_slice-old.result.now class && is_some (next_in (option_copied c.row_at-row.result) class)) (is_among c.as_slice-new.result.now)
    (has_cell old) (has_cell new) (λ class. code_in rows (next_in (option_copied c.row_at-row.result) class)) (is_tried c.args.cells.now) (is_tried c.args.taken.now)
    (is_tried c.choose_tag.new.cells) (is_tried c.choose_tag.new.taken) (laid_over c.args.draft.now x) (laid_over c.lay_turn.new.draft x)
    (λ class. ap (λ b. b && is_some (next_in (option_copied c.row_at-row.result) class)) (was class) ∙ ap (λ (r : Option KeptRow). has_cell old class && is_some (next_in r class)) c.row_at-row.ensures)
    (λ class. ap (λ (l : List ℕ). is_among l class) c.as_slice-new.ensures.value ∙ c.in_ok-listed_new.ensures class ∙ ap (λ (r : Option KeptRow). is_some (next_in r class)) c.row_at-row.ensures)
    c.in_ok-tag.ensures.chosen c.in_ok-lay_turn.ensures))
