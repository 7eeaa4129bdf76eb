use Rattle.std.proofs.Common.{◌≡◌, ◌++◌, ℕ, List, sym, ap, subst, ◌∙◌}
use Rattle.slab.specs.Slab.{get}
use Rattle.dt_pages.specs.Image.{look_up}
use Rattle.dt_pages.specs.Draft.{laid_over}
use Rattle.dt_mrd.specs.declared.staged.StagedRoot.{StagedRoot}
use Rattle.dt_mrd.specs.declared.staged.MrdStaged.{MrdStaged}
use Rattle.dt_mrd.specs.declared.turn.Turn.{Turn}
use Rattle.dt_mrd.specs.Kept.{with_roots}
use Rattle.dt_mrd.specs.Levels.{AreSelectors}
use Rattle.dt_mrd.specs.Staging.{with_places}
use Rattle.dt_mrd.proofs.OldKeys.{old_keys}
use Rattle.dt_mrd.proofs.Settling.{laid_stands, placed_stands}
use Rattle.dt_mrd.proofs.LaidAndPlaced.{can_place, places, follows, words_stay}
use Rattle.dt_mrd.proofs.kept_rows.KeptRows.lay_and_place.Goals as goal

pub returns-in_err-roots-clause-stands : goal.returns-in_err-roots-clause-stands
returns-in_err-roots-clause-stands c = λ x held st. laid_stands c.args.self.now c.lay.new.self x held c.lay.ensures.rest_kept c.lay.ensures.extends st

pub place-requires-clause-able : goal.place-requires-clause-able
place-requires-clause-able c =
    let x = look_up c.args.tree.now in
    let kept = c.args.self.now in
    let laid = c.lay.new.self in
    let changes = c.args.changes.now in
    let staged : List StagedRoot = c.in_ok-roots.roots.items in
    let turns : List Turn = c.as_slice.result.now in
    let first = laid_over c.args.draft.now x in
    let found = c.in_ok-roots.ensures.selectors in
    let same_turns : turns ≡ found.0 = c.as_slice.ensures.value ∙ found.1 ∙ ap (λ (l : List Turn). l ++ found.0) c.new-turns.ensures.items in
    let selectors : AreSelectors kept.roots.items (get kept.rows) kept.fresh.items changes staged turns (get laid.rows) laid.fresh.items
    = subst (λ (l : List Turn). AreSelectors kept.roots.items (get kept.rows) kept.fresh.items changes staged l (get laid.rows) laid.fresh.items) (sym same_turns) found.2 in (
      c.requires.0,
      changes,
      with_roots staged laid.roots.items,
      can_place kept laid x first c.requires.0 changes staged turns c.requires.1 c.lay.ensures.rest_kept selectors,
    )

pub returns-in_err-place-clause-stands : goal.returns-in_err-place-clause-stands
returns-in_err-place-clause-stands c = λ x held st.
    placed_stands c.lay.new.self c.place.new.self x held c.place.ensures.rest_kept c.place.ensures.cells c.place.ensures.taken c.place.ensures.cells_kept c.place.ensures.taken_kept c.place.ensures.rows_kept
    (laid_stands c.args.self.now c.lay.new.self x held c.lay.ensures.rest_kept c.lay.ensures.extends st)

pub returns-in_err-set_places-clause-stands : goal.returns-in_err-set_places-clause-stands
returns-in_err-set_places-clause-stands c = λ x held st.
    placed_stands c.lay.new.self c.place.new.self x held c.place.ensures.rest_kept c.place.ensures.cells c.place.ensures.taken c.place.ensures.cells_kept c.place.ensures.taken_kept c.place.ensures.rows_kept
    (laid_stands c.args.self.now c.lay.new.self x held c.lay.ensures.rest_kept c.lay.ensures.extends st)

pub returns-in_err-gone-clause-stands : goal.returns-in_err-gone-clause-stands
returns-in_err-gone-clause-stands c = λ x held st.
    placed_stands c.lay.new.self c.place.new.self x held c.place.ensures.rest_kept c.place.ensures.cells c.place.ensures.taken c.place.ensures.cells_kept c.place.ensures.taken_kept c.place.ensures.rows_kept
    (laid_stands c.args.self.now c.lay.new.self x held c.lay.ensures.rest_kept c.lay.ensures.extends st)

pub returns-clause-stands : goal.returns-clause-stands
returns-clause-stands c = λ x held st.
    placed_stands c.lay.new.self c.place.new.self x held c.place.ensures.rest_kept c.place.ensures.cells c.place.ensures.taken c.place.ensures.cells_kept c.place.ensures.taken_kept c.place.ensures.rows_kept
    (laid_stands c.args.self.now c.lay.new.self x held c.lay.ensures.rest_kept c.lay.ensures.extends st)

pub returns-clause-placed : goal.returns-clause-placed
returns-clause-placed c = λ held can.
    let x = look_up c.args.tree.now in
    let kept = c.args.self.now in
    let laid = c.lay.new.self in
    let changes = c.args.changes.now in
    let staged : List StagedRoot = c.in_ok-roots.roots.items in
    let turns : List Turn = c.as_slice.result.now in
    let first = laid_over c.args.draft.now x in
    let found = c.in_ok-roots.ensures.selectors in
    let same_turns : turns ≡ found.0 = c.as_slice.ensures.value ∙ found.1 ∙ ap (λ (l : List Turn). l ++ found.0) c.new-turns.ensures.items in
    let selectors : AreSelectors kept.roots.items (get kept.rows) kept.fresh.items changes staged turns (get laid.rows) laid.fresh.items
    = subst (λ (l : List Turn). AreSelectors kept.roots.items (get kept.rows) kept.fresh.items changes staged l (get laid.rows) laid.fresh.items) (sym same_turns) found.2 in
    let over = c.place.new.self in
    let d = laid_over c.place.new.draft x in
    let e = laid_over c.set_places.new.draft x in
    let roots = with_roots staged laid.roots.items in
    let left : MrdStaged = record { roots = c.in_ok-roots.roots; gone = c.in_ok-gone.gone } in
    let words : (address : ℕ) → e address ≡ with_places (get over.rows) staged d address
    = (λ address. c.in_ok-set_places.ensures x address ∙ ap (λ (l : List StagedRoot). with_places (get over.rows) l d address) c.as_slice-2.ensures.value) in
    let gone : c.in_ok-gone.gone.items ≡ old_keys turns = c.in_ok-gone.ensures ∙ ap old_keys (c.as_slice-3.ensures.value ∙ sym c.as_slice.ensures.value) in
    let are = c.in_ok-place.ensures.placed held changes roots (can_place kept laid x first held changes staged turns can c.lay.ensures.rest_kept selectors) in (
      places kept laid over x first d e held changes left turns can c.lay.ensures.rest_kept selectors c.place.ensures.rest_kept are words gone,
      follows kept laid over x first d e held changes left turns can c.lay.ensures.rest_kept selectors c.place.ensures.rest_kept are words gone,
    )

pub returns-clause-rest : goal.returns-clause-rest
returns-clause-rest c = λ address none.
    let x = look_up c.args.tree.now in
    let kept = c.args.self.now in
    let laid = c.lay.new.self in
    let changes = c.args.changes.now in
    let staged : List StagedRoot = c.in_ok-roots.roots.items in
    let turns : List Turn = c.as_slice.result.now in
    let first = laid_over c.args.draft.now x in
    let found = c.in_ok-roots.ensures.selectors in
    let same_turns : turns ≡ found.0 = c.as_slice.ensures.value ∙ found.1 ∙ ap (λ (l : List Turn). l ++ found.0) c.new-turns.ensures.items in
    let selectors : AreSelectors kept.roots.items (get kept.rows) kept.fresh.items changes staged turns (get laid.rows) laid.fresh.items
    = subst (λ (l : List Turn). AreSelectors kept.roots.items (get kept.rows) kept.fresh.items changes staged l (get laid.rows) laid.fresh.items) (sym same_turns) found.2 in
    let over = c.place.new.self in
    let d = laid_over c.place.new.draft x in
    let e = laid_over c.set_places.new.draft x in
    let roots = with_roots staged laid.roots.items in
    let left : MrdStaged = record { roots = c.in_ok-roots.roots; gone = c.in_ok-gone.gone } in
    let words : (address : ℕ) → e address ≡ with_places (get over.rows) staged d address
    = (λ address. c.in_ok-set_places.ensures x address ∙ ap (λ (l : List StagedRoot). with_places (get over.rows) l d address) c.as_slice-2.ensures.value) in
    let gone : c.in_ok-gone.gone.items ≡ old_keys turns = c.in_ok-gone.ensures ∙ ap old_keys (c.as_slice-3.ensures.value ∙ sym c.as_slice.ensures.value) in
    let held = c.requires.0 in
    let can = c.requires.1 in
    let are = c.in_ok-place.ensures.placed held changes roots (can_place kept laid x first held changes staged turns can c.lay.ensures.rest_kept selectors) in
    words_stay kept laid over x first d e held changes left turns can c.lay.ensures.rest_kept selectors c.place.ensures.rest_kept are words gone c.in_ok-place.ensures.rest address none
