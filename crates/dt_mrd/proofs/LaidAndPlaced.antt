-- A stage from the laying of rows on: what is laid may be placed, and what was placed follows.
use Rattle.std.proofs.Common.{◌≡◌, ◌≢◌, ℕ, ◌+◌, ◌<◌, true, false, List, get_or, length, None, sym, ap, subst, ◌∙◌, arith}
use Rattle.std.proofs.lemmas.Bool.{or_parts, true≢false}
use Rattle.slab.specs.Slab.{get}
use Rattle.dt_pages.specs.Reading.{Reading}
use Rattle.dt_scratch.specs.declared.reply.Change.{Change}
use Rattle.dt_cells.specs.Regions.{place_of}
use Rattle.dt_cells.specs.Held.{Held, Row, held_after, is_changed, is_changed_place, IsStageable}
use Rattle.dt_cells.specs.HeldLaws.{changed_place}
use Rattle.dt_cells.specs.Kind.{sets}
use Rattle.dt_fit.specs.Cells.{is_tried}
use Rattle.dt_mrd.specs.declared.staged.StagedRoot.{StagedRoot}
use Rattle.dt_mrd.specs.declared.staged.MrdStaged.{MrdStaged}
use Rattle.dt_mrd.specs.declared.kept_rows.KeptRows.{KeptRows}
use Rattle.dt_mrd.specs.declared.turn.Turn.{Turn}
use Rattle.dt_mrd.specs.Rows.{IsRow}
use Rattle.dt_mrd.specs.Reading.{owns, tag_read}
use Rattle.dt_mrd.specs.Placing.{Places, mrd}
use Rattle.dt_mrd.specs.MrdStanding.{rows_elsewhere, taken_elsewhere}
use Rattle.dt_mrd.specs.Kept.{row_at, tag_in, AreKept, AreTaken, with_roots, Follows}
use Rattle.dt_mrd.specs.Levels.{AreSelectors}
use Rattle.dt_mrd.specs.Turns.{AreTurns, IsBatch, CanPlace, ArePlaced, tags_in}
use Rattle.dt_mrd.specs.Staging.{has_root, with_places, CanLay}
use Rattle.dt_mrd.proofs.LevelTurns.{are_turns}
use Rattle.dt_mrd.proofs.PlaceWords.{word_of_root, word_beside, roots_changed}
use Rattle.dt_mrd.proofs.OldKeys.{old_keys}
use Rattle.dt_mrd.proofs.StageEnds.{batch_of, placed, placed_tags, used_after, taken_after, rows_after, selector_in_range}

module _ (kept laid : KeptRows) (x d : Reading) (held : Held) (changes : List Change) (staged : List StagedRoot) (turns : List Turn) (can : CanLay kept x d held changes)
    (same : laid ≡ record kept { rows = laid.rows; fresh = laid.fresh })
    (selectors : AreSelectors kept.roots.items (get kept.rows) kept.fresh.items changes staged turns (get laid.rows) laid.fresh.items) where
  batch : IsBatch x held changes
  batch = batch_of kept.least x held changes can.stands.some can.stands.shows can.stageable

  turns_are : AreTurns x held changes kept.roots.items (with_roots staged kept.roots.items) (get laid.rows) laid.fresh.items turns
  turns_are = are_turns x held changes kept.roots.items (get kept.rows) staged turns (get laid.rows) laid.fresh.items batch can.stageable.ascending can.stands.count
      (subst (λ (f : List ℕ). AreKept kept.roots.items (get kept.rows) f (tag_read x) held) can.none_fresh can.stands.rows)
      (subst (λ (f : List ℕ). AreSelectors kept.roots.items (get kept.rows) f changes staged turns (get laid.rows) laid.fresh.items) can.none_fresh selectors)

  -- what is laid may be placed
  pub can_place : CanPlace x d held changes laid.roots.items (with_roots staged laid.roots.items) (get laid.rows) laid.fresh.items turns (is_tried laid.cells) (is_tried laid.taken)
  can_place = subst (λ (k : KeptRows). CanPlace x d held changes k.roots.items (with_roots staged k.roots.items) (get laid.rows) laid.fresh.items turns (is_tried k.cells) (is_tried k.taken)) (sym same)
      (record { batch = batch; turns_are = turns_are; untouched = can.untouched; used_are = can.used_are; taken_are = can.taken_are })

-- a selector's place word isn't a cell
not_cell : (s : ℕ) → s < 4096 → (address : ℕ) → owns address ≡ true → address ≢ place_of s
not_cell s below address own e =
    let place : owns (8192 + s) ≡ true = subst (λ a. owns a ≡ true) e own in
    refuse place
  where
    refuse : owns (8192 + s) ≡ true → ⊥
    refuse o = grind arith

-- what was placed follows
module _ (kept laid over : KeptRows) (x first d e : Reading) (held : Held) (changes : List Change) (staged : MrdStaged) (turns : List Turn) (can : CanLay kept x first held changes)
    (same : laid ≡ record kept { rows = laid.rows; fresh = laid.fresh })
    (selectors : AreSelectors kept.roots.items (get kept.rows) kept.fresh.items changes staged.roots.items turns (get laid.rows) laid.fresh.items)
    (same_over : over ≡ record laid { rows = over.rows; cells = over.cells; taken = over.taken })
    (are : ArePlaced x d held changes laid.roots.items (with_roots staged.roots.items laid.roots.items) (get over.rows) laid.fresh.items turns turns (is_tried over.cells) (is_tried over.taken))
    (words : (address : ℕ) → e address ≡ with_places (get over.rows) staged.roots.items d address)
    (gone : staged.gone.items ≡ old_keys turns) where
  roots : (s : ℕ) → has_root staged.roots.items s ≡ is_changed changes s
  roots = roots_changed kept.roots.items staged.roots.items (get kept.rows) kept.fresh.items changes turns (get laid.rows) laid.fresh.items selectors

  range : (s : ℕ) → is_changed changes s ≡ true → s < 4096
  range s t = selector_in_range kept.least 4 s changes can.stageable.each t

  count : length laid.roots.items ≡ 4096
  count = ap (λ (k : KeptRows). length k.roots.items) same ∙ can.stands.count

  same_cells : (address : ℕ) → owns address ≡ true → e address ≡ d address
  same_cells address own = words address
      ∙ word_beside (get over.rows) staged.roots.items d address (λ s t. not_cell s (range s (sym (roots s) ∙ t)) address own)

  place_words : (s : ℕ) → is_changed changes s ≡ true → e (place_of s) ≡ tag_in (row_at (get over.rows) (get_or (with_roots staged.roots.items laid.roots.items) s None))
  place_words s t = words (place_of s)
      ∙ word_of_root (get over.rows) s staged.roots.items laid.roots.items d (let below : s < 4096 = range s t in omega (arith, below, count)) (roots s ∙ t)

  pub places : Places x held changes e
  places = placed x d e held changes laid.roots.items (with_roots staged.roots.items laid.roots.items) (get over.rows) laid.fresh.items turns (is_tried over.cells) (is_tried over.taken)
      are same_cells place_words

  tags : (row : Row) → IsRow (held_after held changes) row → tags_in (with_roots staged.roots.items laid.roots.items) (get over.rows) row ≡ places.tags row
  unfolding places
  tags row is = sym (placed_tags x d e held changes laid.roots.items (with_roots staged.roots.items laid.roots.items) (get over.rows) laid.fresh.items turns (is_tried over.cells) (is_tried over.taken)
      are same_cells place_words row)

  rows_follow : AreKept (with_roots staged.roots.items laid.roots.items) (get over.rows) (old_keys turns) places.tags (held_after held changes)
  rows_follow = rows_elsewhere (with_roots staged.roots.items laid.roots.items) (get over.rows) (old_keys turns) (tags_in (with_roots staged.roots.items laid.roots.items) (get over.rows)) places.tags
      (held_after held changes) tags
      (rows_after x d e held changes laid.roots.items (with_roots staged.roots.items laid.roots.items) (get over.rows) laid.fresh.items turns (is_tried over.cells) (is_tried over.taken)
      are same_cells place_words)

  taken_follow : AreTaken (is_tried over.taken) places.tags (held_after held changes)
  taken_follow = taken_elsewhere (is_tried over.taken) (tags_in (with_roots staged.roots.items laid.roots.items) (get over.rows)) places.tags (held_after held changes) tags
      (taken_after x d e held changes laid.roots.items (with_roots staged.roots.items laid.roots.items) (get over.rows) laid.fresh.items turns (is_tried over.cells) (is_tried over.taken)
      are same_cells place_words)

  pub follows : Follows over staged x held changes
  follows = record {
    stageable = subst (λ (k : KeptRows). IsStageable k.least 4 held changes) (sym same_over) (subst (λ (k : KeptRows). IsStageable k.least 4 held changes) (sym same) can.stageable);
    reading = e;
    places = places;
    rows = subst (λ (g : List ℕ). AreKept (with_roots staged.roots.items over.roots.items) (get over.rows) g places.tags (held_after held changes)) (sym gone)
        (subst (λ (k : KeptRows). AreKept (with_roots staged.roots.items k.roots.items) (get over.rows) (old_keys turns) places.tags (held_after held changes)) (sym same_over) rows_follow);
    cells = used_after x d e held changes laid.roots.items (with_roots staged.roots.items laid.roots.items) (get over.rows) laid.fresh.items turns (is_tried over.cells) (is_tried over.taken)
        are same_cells place_words;
    taken = taken_follow;
  }

  -- every other word stays
  pub words_stay : ((address : ℕ) → owns address ≡ false → d address ≡ first address) → (address : ℕ) → sets mrd changes address ≡ false → e address ≡ first address
  words_stay stay address none =
      let parts = or_parts (owns address) (is_changed_place changes address) none in
      words address
      ∙ word_beside (get over.rows) staged.roots.items d address (λ s t at. true≢false
      (sym (changed_place changes s ∙ sym (roots s) ∙ t) ∙ ap (is_changed_place changes) (sym at) ∙ parts.1))
      ∙ stay address parts.0
