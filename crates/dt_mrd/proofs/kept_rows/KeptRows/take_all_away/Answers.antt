use Rattle.std.proofs.Common.{◌≡◌, ◌<◌, ◌-◌, ℕ, Option, get_or, is_some, rules, refl, sym, ap, subst, ◌∙◌}
use Rattle.slab.specs.Slab.{get}
use Rattle.dt_pages.specs.Image.{look_up}
use Rattle.dt_pages.specs.Draft.{laid_over}
use Rattle.dt_fit.specs.Cells.{is_tried}
use Rattle.dt_mrd.specs.declared.kept_row.KeptRow.{KeptRow}
use Rattle.dt_mrd.specs.declared.kept_rows.KeptRows.{KeptRows}
use Rattle.dt_mrd.specs.declared.turn.Turn.{Turn}
use Rattle.dt_mrd.specs.Kept.{row_at, tag_in}
use Rattle.dt_mrd.specs.Laying.{has_cell, HasClasses}
use Rattle.dt_mrd.specs.Midway.{TakenAway}
use Rattle.dt_mrd.proofs.Touched.{no_turn, turn_found, small_before, classes_before}
use Rattle.dt_mrd.proofs.TurnSteps.{none_away, one_away, all_away}
use Rattle.dt_mrd.proofs.kept_rows.KeptRows.take_all_away.Goals as goal

pub loop-turn-init : goal.loop-turn-init
loop-turn-init c =
    let x = look_up c.args.tree.now in
    let kept = c.args.self.now in
    record {
      rest_kept = refl;
      cells = c.requires.cells;
      taken = c.requires.taken;
      cells_kept = λ cell. refl;
      taken_kept = λ displacement. refl;
      cleared = λ held changes roots can. none_away x held changes kept.roots.items roots (get kept.rows) kept.fresh.items c.args.turns.now (laid_over c.args.draft.now x)
          (is_tried kept.cells) (is_tried kept.taken) can;
      rest = λ address out. refl;
    }

pub take_away-requires-clause-tag : goal.take_away-requires-clause-tag
take_away-requires-clause-tag c =
    let kept = c.args.self.now in
    let able = c.requires.able in
    let turns = c.args.turns.now in
    let i = c.loop-turn.turn-index in
    let same : get c.loop-turn.self.rows ≡ get kept.rows = ap (λ (k : KeptRows). get k.rows) c.loop-turn.invariant.rest_kept in
    let at : c.turn-item.result ≡ get_or turns i no_turn = turn_found turns i c.turn-item.result c.loop-turn-test.true c.turn-item.is in
    subst (λ (u : Turn). tag_in (row_at (get c.loop-turn.self.rows) u.old) - 1 < 67106816) (sym at)
    (subst (λ (r : ℕ → Option KeptRow). tag_in (row_at r (get_or turns i no_turn).old) - 1 < 67106816) (sym same)
    (small_before (look_up c.args.tree.now) able.0 able.1 kept.roots.items able.2 (get kept.rows) kept.fresh.items turns able.3.batch able.3.turns_are i c.loop-turn-test.true))

pub take_away-requires-clause-classes : goal.take_away-requires-clause-classes
take_away-requires-clause-classes c =
    let kept = c.args.self.now in
    let able = c.requires.able in
    let turns = c.args.turns.now in
    let i = c.loop-turn.turn-index in
    let same : get c.loop-turn.self.rows ≡ get kept.rows = ap (λ (k : KeptRows). get k.rows) c.loop-turn.invariant.rest_kept in
    let at : c.turn-item.result ≡ get_or turns i no_turn = turn_found turns i c.turn-item.result c.loop-turn-test.true c.turn-item.is in
    subst (λ (u : Turn). HasClasses (row_at (get c.loop-turn.self.rows) u.old)) (sym at)
    (subst (λ (r : ℕ → Option KeptRow). HasClasses (row_at r (get_or turns i no_turn).old)) (sym same)
    (classes_before (look_up c.args.tree.now) able.0 able.1 kept.roots.items able.2 (get kept.rows) kept.fresh.items turns able.3.batch able.3.turns_are i c.loop-turn-test.true))

pub loop-turn-preserved : goal.loop-turn-preserved
loop-turn-preserved c =
    let x = look_up c.args.tree.now in
    let kept = c.args.self.now in
    let turns = c.args.turns.now in
    let i = c.loop-turn.turn-index in
    let so = c.loop-turn.invariant in
    let same : get c.loop-turn.self.rows ≡ get kept.rows = ap (λ (k : KeptRows). get k.rows) so.rest_kept in
    let at : c.turn-item.result ≡ get_or turns i no_turn = turn_found turns i c.turn-item.result c.loop-turn-test.true c.turn-item.is in
    record {
      rest_kept = search rules;
      cells = c.take_away.ensures.cells;
      taken = c.take_away.ensures.taken;
      cells_kept = λ cell. c.take_away.ensures.cells_kept cell ∙ so.cells_kept cell;
      taken_kept = λ displacement. c.take_away.ensures.taken_kept displacement ∙ so.taken_kept displacement;
      cleared = λ held changes roots can. one_away x held changes kept.roots.items roots (get kept.rows) kept.fresh.items turns (laid_over c.args.draft.now x)
          (is_tried kept.cells) (is_tried kept.taken) can i c.turn-item.result c.loop-turn-test.true at (laid_over c.loop-turn.draft x)
          (is_tried c.loop-turn.self.cells) (is_tried c.loop-turn.self.taken) (so.cleared held changes roots can)
          (is_tried c.take_away.new.cells) (is_tried c.take_away.new.taken) (laid_over c.take_away.new.draft x)
          (subst (λ (r : ℕ → Option KeptRow). TakenAway (tag_in (row_at r c.turn-item.result.old)) (has_cell (row_at r c.turn-item.result.old)) (has_cell (row_at r c.turn-item.result.new))
          (is_some c.turn-item.result.new) (is_tried c.loop-turn.self.cells) (is_tried c.loop-turn.self.taken) (laid_over c.loop-turn.draft x)
          (is_tried c.take_away.new.cells) (is_tried c.take_away.new.taken) (laid_over c.take_away.new.draft x)) same c.in_ok-take_away.ensures.away);
      rest = λ address out. c.in_ok-take_away.ensures.rest address out ∙ so.rest address out;
    }

pub returns-clause-ready : goal.returns-clause-ready
returns-clause-ready c =
    let x = look_up c.args.tree.now in
    let kept = c.args.self.now in
    λ held changes roots can. all_away x held changes kept.roots.items roots (get kept.rows) kept.fresh.items c.args.turns.now (laid_over c.args.draft.now x)
    (is_tried kept.cells) (is_tried kept.taken) can c.loop-turn.turn-index c.loop-turn-test.false (laid_over c.loop-turn.draft x)
    (is_tried c.loop-turn.self.cells) (is_tried c.loop-turn.self.taken) (c.loop-turn.invariant.cleared held changes roots can)
