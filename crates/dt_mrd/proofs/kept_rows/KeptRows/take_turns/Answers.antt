use Rattle.std.proofs.Common.{◌≡◌, ◌<◌, ◌-◌, ◌&&◌, ℕ, Bool, true, false, List, Option, get_or, is_some, rules, refl, sym, ap, subst, ◌∙◌}
use Rattle.std.proofs.lemmas.List.{take_all}
use Rattle.slab.specs.Slab.{get}
use Rattle.dt_pages.specs.Image.{look_up}
use Rattle.dt_pages.specs.Draft.{laid_over}
use Rattle.dt_fit.specs.Cells.{is_tried}
use Rattle.dt_placing.specs.Turn.{Laid}
use Rattle.dt_mrd.specs.declared.kept_row.KeptRow.{KeptRow}
use Rattle.dt_mrd.specs.declared.turn.Turn.{Turn}
use Rattle.dt_mrd.specs.Kept.{row_at, tag_in}
use Rattle.dt_mrd.specs.Laying.{has_cell, number_at, HasClasses}
use Rattle.dt_mrd.specs.Midway.{HasOtherRows, given_up}
use Rattle.dt_mrd.specs.Turns.{ArePlaced}
use Rattle.dt_mrd.proofs.Touched.{no_turn, turn_found, small_before, classes_before, classes_after, fresh_after}
use Rattle.dt_mrd.proofs.TurnSteps.{beside_few, one_over, words_beside}
use Rattle.dt_mrd.proofs.kept_rows.KeptRows.take_turns.Goals as goal

pub loop-turn-init : goal.loop-turn-init
loop-turn-init c = record {
  rest_kept = refl;
  cells = c.requires.cells;
  taken = c.requires.taken;
  cells_kept = λ cell. refl;
  taken_kept = λ displacement. refl;
  rows_kept = λ key none. refl;
  placed = λ held changes roots are. are;
  rest = λ address out. refl;
}

pub take_turn-requires-clause-before : goal.take_turn-requires-clause-before
take_turn-requires-clause-before c =
    let x = look_up c.args.tree.now in
    let kept = c.args.self.now in
    let able = c.requires.able in
    let turns = c.args.turns.now in
    let i = c.loop-turn.turn-index in
    let rows : ℕ → Option KeptRow = get c.loop-turn.self.rows in
    let are = c.loop-turn.invariant.placed able.0 able.1 able.2 able.3 in
    let at : c.turn-item.result ≡ get_or turns i no_turn = turn_found turns i c.turn-item.result c.loop-turn-test.true c.turn-item.is in
    subst (λ (u : Turn). tag_in (row_at rows u.old) - 1 < 67106816) (sym at)
    (small_before x able.0 able.1 kept.roots.items able.2 rows kept.fresh.items turns are.batch are.turns_are i c.loop-turn-test.true)

pub take_turn-requires-clause-old : goal.take_turn-requires-clause-old
take_turn-requires-clause-old c =
    let x = look_up c.args.tree.now in
    let kept = c.args.self.now in
    let able = c.requires.able in
    let turns = c.args.turns.now in
    let i = c.loop-turn.turn-index in
    let rows : ℕ → Option KeptRow = get c.loop-turn.self.rows in
    let are = c.loop-turn.invariant.placed able.0 able.1 able.2 able.3 in
    let at : c.turn-item.result ≡ get_or turns i no_turn = turn_found turns i c.turn-item.result c.loop-turn-test.true c.turn-item.is in
    subst (λ (u : Turn). HasClasses (row_at rows u.old)) (sym at)
    (classes_before x able.0 able.1 kept.roots.items able.2 rows kept.fresh.items turns are.batch are.turns_are i c.loop-turn-test.true)

pub take_turn-requires-clause-new : goal.take_turn-requires-clause-new
take_turn-requires-clause-new c =
    let x = look_up c.args.tree.now in
    let kept = c.args.self.now in
    let able = c.requires.able in
    let turns = c.args.turns.now in
    let i = c.loop-turn.turn-index in
    let rows : ℕ → Option KeptRow = get c.loop-turn.self.rows in
    let are = c.loop-turn.invariant.placed able.0 able.1 able.2 able.3 in
    let at : c.turn-item.result ≡ get_or turns i no_turn = turn_found turns i c.turn-item.result c.loop-turn-test.true c.turn-item.is in
    subst (λ (u : Turn). HasClasses (row_at rows u.new)) (sym at)
    (classes_after x able.0 able.1 kept.roots.items able.2 rows kept.fresh.items turns are.batch are.turns_are i c.loop-turn-test.true)

pub take_turn-requires-clause-others : goal.take_turn-requires-clause-others
take_turn-requires-clause-others c =
    let x = look_up c.args.tree.now in
    let kept = c.args.self.now in
    let able = c.requires.able in
    let turns = c.args.turns.now in
    let i = c.loop-turn.turn-index in
    let rows : ℕ → Option KeptRow = get c.loop-turn.self.rows in
    let are = c.loop-turn.invariant.placed able.0 able.1 able.2 able.3 in
    let at : c.turn-item.result ≡ get_or turns i no_turn = turn_found turns i c.turn-item.result c.loop-turn-test.true c.turn-item.is in
    subst (λ (u : Turn). is_some u.new ≡ true → (freed : ℕ → Bool) → Laid (number_at (tag_in (row_at rows u.old))) (λ class. has_cell (row_at rows u.old) class && has_cell (row_at rows u.new) class)
    (λ class. false) 2048 (is_tried c.loop-turn.self.cells) freed → HasOtherRows freed (given_up (is_tried c.loop-turn.self.taken) (tag_in (row_at rows u.old)))) (sym at)
    (beside_few x able.0 able.1 kept.roots.items able.2 rows kept.fresh.items turns i c.loop-turn-test.true (laid_over c.loop-turn.draft x)
    (is_tried c.loop-turn.self.cells) (is_tried c.loop-turn.self.taken) are)

pub loop-turn-preserved : goal.loop-turn-preserved
loop-turn-preserved c =
    let x = look_up c.args.tree.now in
    let kept = c.args.self.now in
    let able = c.requires.able in
    let turns = c.args.turns.now in
    let i = c.loop-turn.turn-index in
    let rows : ℕ → Option KeptRow = get c.loop-turn.self.rows in
    let are = c.loop-turn.invariant.placed able.0 able.1 able.2 able.3 in
    let at : c.turn-item.result ≡ get_or turns i no_turn = turn_found turns i c.turn-item.result c.loop-turn-test.true c.turn-item.is in
    let so = c.loop-turn.invariant in
    let small : tag_in (row_at rows c.turn-item.result.old) - 1 < 67106816 = subst (λ (u : Turn). tag_in (row_at rows u.old) - 1 < 67106816) (sym at)
    (small_before x able.0 able.1 kept.roots.items able.2 rows kept.fresh.items turns are.batch are.turns_are i c.loop-turn-test.true) in
    record {
      rest_kept = search rules;
      cells = c.take_turn.ensures.cells;
      taken = c.take_turn.ensures.taken;
      cells_kept = λ cell. c.take_turn.ensures.cells_kept cell ∙ so.cells_kept cell;
      taken_kept = λ displacement. c.take_turn.ensures.taken_kept displacement ∙ so.taken_kept displacement;
      rows_kept = λ key none. c.take_turn.ensures.rows_kept key (λ e. none (fresh_after x able.0 able.1 kept.roots.items able.2 rows kept.fresh.items turns are.batch are.turns_are i
          c.loop-turn-test.true key (ap (λ (u : Turn). u.new) (sym at) ∙ e))) ∙ so.rows_kept key none;
      placed = λ held changes roots can. one_over x held changes kept.roots.items roots rows kept.fresh.items turns i c.loop-turn-test.true (laid_over c.loop-turn.draft x)
          (is_tried c.loop-turn.self.cells) (is_tried c.loop-turn.self.taken) (so.placed held changes roots can) c.turn-item.result at (get c.take_turn.new.rows)
          (is_tried c.take_turn.new.cells) (is_tried c.take_turn.new.taken) (laid_over c.take_turn.new.draft x) c.in_ok-take_turn.ensures.over;
      rest = λ address out. words_beside c.turn-item.result rows (get c.take_turn.new.rows) (is_tried c.loop-turn.self.cells) (is_tried c.loop-turn.self.taken) (laid_over c.loop-turn.draft x)
          (is_tried c.take_turn.new.cells) (is_tried c.take_turn.new.taken) (laid_over c.take_turn.new.draft x) small c.in_ok-take_turn.ensures.over address out ∙ so.rest address out;
    }

pub returns-in_err-take_turn-clause-rows_kept : goal.returns-in_err-take_turn-clause-rows_kept
returns-in_err-take_turn-clause-rows_kept c =
    let x = look_up c.args.tree.now in
    let kept = c.args.self.now in
    let able = c.requires.able in
    let turns = c.args.turns.now in
    let i = c.loop-turn.turn-index in
    let rows : ℕ → Option KeptRow = get c.loop-turn.self.rows in
    let are = c.loop-turn.invariant.placed able.0 able.1 able.2 able.3 in
    let at : c.turn-item.result ≡ get_or turns i no_turn = turn_found turns i c.turn-item.result c.loop-turn-test.true c.turn-item.is in
    λ key none. c.take_turn.ensures.rows_kept key (λ e. none (fresh_after x able.0 able.1 kept.roots.items able.2 rows kept.fresh.items turns are.batch are.turns_are i
    c.loop-turn-test.true key (ap (λ (u : Turn). u.new) (sym at) ∙ e))) ∙ c.loop-turn.invariant.rows_kept key none

pub returns-clause-placed : goal.returns-clause-placed
returns-clause-placed c = λ held changes roots are.
    subst (λ (l : List Turn). ArePlaced (look_up c.args.tree.now) (laid_over c.loop-turn.draft (look_up c.args.tree.now)) held changes
    c.args.self.now.roots.items roots (get c.loop-turn.self.rows) c.args.self.now.fresh.items c.args.turns.now l (is_tried c.loop-turn.self.cells) (is_tried c.loop-turn.self.taken))
    (take_all c.loop-turn.turn-index c.args.turns.now c.loop-turn-test.false) (c.loop-turn.invariant.placed held changes roots are)
