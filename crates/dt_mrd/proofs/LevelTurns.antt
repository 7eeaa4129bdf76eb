-- What the selectors of a batch come to when they are laid: the turns of the rows that its changes touch.
use Rattle.std.proofs.Common.{◌≡◌, ◌≢◌, ◌==◌, ℕ, ◌<◌, true, false, List, [], ◌∷◌, ◌++◌, length, take, get_or, Option, Some, None, Contains, ◌⊎◌, inl, inr, refl, sym, ap, subst, ◌∙◌, arith}
use Rattle.std.specs.List.Sorted.{IsStrictlySortedBy}
use Rattle.std.proofs.lemmas.Bool.{eqb-true, eq-eqb, true≢false}
use Rattle.dt_pages.specs.Reading.{Reading}
use Rattle.dt_scratch.specs.Query.{Query, query_order}
use Rattle.dt_scratch.specs.declared.reply.Change.{Change}
use Rattle.dt_cells.specs.Held.{Held, Row, held_after, IsStageableChange}
use Rattle.dt_cells.specs.HeldLaws.{by_cases}
use Rattle.dt_mrd.specs.declared.staged.StagedRoot.{StagedRoot}
use Rattle.dt_mrd.specs.declared.turn.Turn.{Turn}
use Rattle.dt_mrd.specs.Rows.{sent, IsRow, comes_before}
use Rattle.dt_mrd.specs.Reading.{tag_read}
use Rattle.dt_mrd.specs.Placing.{IsTabled}
use Rattle.dt_mrd.specs.Kept.{row_at, tag_in, key_along, key_of, with_roots, HasRoot, AreKept}
use Rattle.dt_mrd.specs.ReadingLaws.{row_is_short}
use Rattle.dt_mrd.specs.Levels.{KeptAt, AreSelectors}
use Rattle.dt_mrd.specs.Turns.{row_of_turn, has_turn, AreInOrder, IsOfChange, tags_in, AreTurns, IsBatch}
use Rattle.dt_mrd.proofs.TurnLists.{at_turn}
use Rattle.dt_mrd.proofs.LevelLists.{Has, has_of, contains_of, all_has, has_all}
use Rattle.dt_mrd.proofs.LevelCell.{IsSameBelow}
use Rattle.dt_mrd.proofs.LevelRow.{IsAt, at_still}
use Rattle.dt_mrd.proofs.LevelOver.{key_kept}
use Rattle.dt_mrd.proofs.LevelKeys.{at_next}
use Rattle.dt_mrd.proofs.LevelSelector.{AreOrdered, row_of}
use Rattle.dt_mrd.proofs.LevelSelectors.{AreGiven, AreDone, selectors_done, root_then, root_other, root_is}
use Rattle.dt_mrd.proofs.LevelChanges.{in_turn_of, answer_after, answer_same}
use Rattle.dt_mrd.proofs.LevelTrees.{kept_at, kept_still, stands_at, is_kept}

-- some change is of the selector, or none is
of_selector : (changes : List Change) (s : ℕ) → ((change : Change) × Has changes change × (change.query.selector ≡ s)) ⊎ ((change : Change) → Has changes change → change.query.selector ≢ s)
of_selector [] s = inr (λ change has. absurd has)
of_selector (first ∷ changes) s = by_cases (first.query.selector == s)
    (λ t. inl (first, inl refl, eqb-true first.query.selector s t))
    (λ f. elim (of_selector changes s) [
      | inl found ↦ inl (found.0, inr found.1, found.2)
      | inr none ↦ inr (λ change has. elim has [
        | inl is ↦ subst (λ (c : Change). c.query.selector ≢ s) is (λ same. true≢false (sym (eq-eqb first.query.selector s same) ∙ f))
        | inr later ↦ none change later
      ])
    ])

in_order : (turns : List Turn) → AreOrdered turns → AreInOrder turns
in_order [] up = tt
in_order (first ∷ turns) up = (has_all (λ (later : Turn). comes_before (row_of_turn first) (row_of_turn later) ≡ true) turns (λ later has. up.0 later has), in_order turns up.1)

-- a turn of the row is a turn that the row has
turn_of_row : (turns : List Turn) (turn : Turn) (row : Row) → Has turns turn → row_of_turn turn ≡ row → has_turn turns row ≡ true
turn_of_row turns turn row has e =
    let at = contains_of turns turn has in
    at_turn turns turn row (record { index = at.0; within = at.1; is = ap row_of_turn at.2 ∙ e })

module _ (x : Reading) (held : Held) (changes : List Change) (roots : List (Option ℕ)) (rows : KeptAt) (staged : List StagedRoot) (turns : List Turn)
    (rows_then : KeptAt) (fresh_then : List ℕ) (batch : IsBatch x held changes) (ascending : IsStrictlySortedBy (λ a b. query_order a.query b.query) changes) (count : length roots ≡ 4096)
    (are : AreKept roots rows [] (tag_read x) held) (laid : AreSelectors roots rows [] changes staged turns rows_then fresh_then) where
  abbrev next : Held
  next = held_after held changes

  abbrev tabled : IsTabled held
  tabled = batch.shows.tabled

  abbrev old : (s : ℕ) → s < 4096 → (p : List ℕ) → IsAt rows (key_along rows (get_or roots s None) p) held s p
  old = kept_at roots rows [] (tag_read x) held tabled are

  able : (change : Change) → Has changes change → IsStageableChange 1 4 change
  able = all_has (IsStageableChange 1 4) changes batch.each

  given : AreGiven held next tabled batch.tabled roots rows old 0 rows changes
  given = record {
    kept = λ k some. refl;
    up = in_turn_of changes ascending;
    above = λ change has. omega arith;
    range = λ change has. (able change has).range.selector;
    few = λ change has. (able change has).greatest;
    answers = answer_after held changes (in_turn_of changes ascending);
    unchanged = λ s classes above none. answer_same held changes (sent s classes) none;
  }

  done : AreDone held next tabled batch.tabled roots rows old rows [] changes staged turns rows_then fresh_then
  done = selectors_done held next tabled batch.tabled roots rows old 0 rows [] changes staged turns rows_then fresh_then given laid

  abbrev roots_then : List (Option ℕ)
  roots_then = with_roots staged roots

  -- ---- keys

  row_range : (other : Held) → IsTabled other → (s : ℕ) (p : List ℕ) → IsRow other (s, p) → s < 4096
  row_range other tabled_other s p is = (tabled_other.range (sent s (p ++ (is.0 ∷ is.1.0))) is.1.1).selector

  root_key : (s : ℕ) → s < 4096 → get_or roots_then s None ≡ root_then held next tabled batch.tabled roots rows old staged s
  root_key s below = root_is staged roots s (let c = count in omega (arith, below, c))

  root_same : (s : ℕ) → s < 4096 → ((change : Change) → Has changes change → change.query.selector ≢ s) → get_or roots_then s None ≡ get_or roots s None
  root_same s below none = root_key s below ∙ root_other staged s (get_or roots s None) (λ r has same. (let found = done.staged_of r has in none found.0 found.1 (found.2 ∙ same)))

  -- the keys of before lead where they led
  key_before : (s : ℕ) → s < 4096 → (p : List ℕ) → key_along rows_then (get_or roots s None) p ≡ key_along rows (get_or roots s None) p
  key_before s below p = key_kept held next tabled batch.tabled s rows (get_or roots s None) (old s below) rows_then done.extends.kept p []

  same_below : (s : ℕ) → ((change : Change) → Has changes change → change.query.selector ≢ s) → (p : List ℕ) → IsSameBelow held next s p
  same_below s none p class rest = answer_same held changes (sent s (p ++ (class ∷ rest))) (λ change has same. none change has (ap (λ (q : Query). q.selector) same))

  at_then : (s : ℕ) → s < 4096 → (p : List ℕ) → IsAt rows_then (key_of roots_then rows_then (s, p)) next s p
  at_then s below p = elim (of_selector changes s) [
    | inl found ↦ subst (λ (k : Option ℕ). IsAt rows_then (key_along rows_then k p) next s p) (sym (root_key s below)) (done.at s found.0 found.1 found.2 p)
    | inr none ↦ subst (λ (k : Option ℕ). IsAt rows_then k next s p)
        (sym (ap (λ (k : Option ℕ). key_along rows_then k p) (root_same s below none) ∙ key_before s below p))
        (at_next rows_then (key_along rows (get_or roots s None) p) held next s p (same_below s none p) (at_still rows rows_then (key_along rows (get_or roots s None) p) held s p done.extends.kept (old s below p)))
  ]

  turn_range : (turn : Turn) → Has turns turn → turn.query.selector < 4096
  turn_range turn has = let found = done.of_query turn has in subst (λ (q : Query). q.selector < 4096) found.2 (able found.0 found.1).range.selector

  -- ---- rows

  old_kept : AreKept roots rows_then fresh_then (tag_read x) held
  old_kept = kept_still roots rows rows_then [] fresh_then (tag_read x) held tabled are done.extends

  root_of_at : (s : ℕ) (key : Option ℕ) → IsAt rows_then key next s [] → HasRoot next s key
  root_of_at s None at = inr (at.none refl, refl)
  root_of_at s (Some key) at = inl ((at.there key refl).0, refl)

  new_kept : AreKept roots_then rows_then [] (tags_in roots_then rows_then) next
  new_kept = record {
    roots_are = λ s below. root_of_at s (get_or roots_then s None) (at_then s below []);
    row = λ row is. (let stands = stands_at rows_then (key_of roots_then rows_then row) next row.0 row.1 (at_then row.0 (row_range next batch.tabled row.0 row.1 is) row.1) is in (
      stands.at_key,
      stands.row,
      stands.key_is,
      stands.row_is,
      is_kept (tags_in roots_then rows_then) next row.0 row.1 stands.row
          (sym (ap (λ (k : Option ℕ). tag_in (row_at rows_then k)) stands.key_is ∙ ap tag_in stands.row_is)) stands.cells,
    ));
    not_free = λ row key is e free. (let below = free.1 in omega (arith, below));
  }

  others_keep : (row : Row) → has_turn turns row ≡ false → IsRow next row → key_of roots_then rows_then row ≡ key_of roots rows_then row
  others_keep row none is =
      let below : row.0 < 4096 = row_range next batch.tabled row.0 row.1 is in
      elim (of_selector changes row.0) [
        | inl found ↦ ap (λ (k : Option ℕ). key_along rows_then k row.1) (root_key row.0 below)
            ∙ done.others row.0 found.0 found.1 found.2 row.1 (let short = row_is_short next row.0 row.1 batch.tabled is in omega (arith, short))
            (λ turn has same e. true≢false (sym (turn_of_row turns turn row has (λ i. (same i, e i))) ∙ none))
            ∙ sym (key_before row.0 below row.1)
        | inr unchanged ↦ ap (λ (k : Option ℕ). key_along rows_then k row.1) (root_same row.0 below unchanged)
      ]

  pub are_turns : AreTurns x held changes roots (with_roots staged roots) rows_then fresh_then turns
  are_turns = record {
    old_rows = old_kept;
    new_rows = new_kept;
    order = in_order turns done.order;
    of_changes = has_all (IsOfChange changes) turns (λ turn has. (let found = done.of_query turn has in
        (found.0, contains_of changes found.0 found.1, found.2, (done.each turn has).long)));
    of_all = λ change has depth short. (let found = done.covers change (has_of changes change has) depth short in
        let sel = found.2 in let cls = found.3 in
        turn_of_row turns found.0 (change.query.selector, take depth change.query.classes) found.1 (λ i. (sel i, cls i)));
    old_keys = has_all (λ (turn : Turn). turn.old ≡ key_of roots rows_then (row_of_turn turn)) turns (λ turn has.
        (done.each turn has).old_is ∙ sym (key_before turn.query.selector (turn_range turn has) (row_of turn)));
    new_keys = has_all (λ (turn : Turn). turn.new ≡ key_of roots_then rows_then (row_of_turn turn)) turns (λ turn has.
        sym (ap (λ (k : Option ℕ). key_along rows_then k (row_of turn)) (root_key turn.query.selector (turn_range turn has)) ∙ (done.each turn has).new_is));
    new_fresh = has_all (λ (turn : Turn). (key : ℕ) → turn.new ≡ Some key → Contains fresh_then key) turns (λ turn has key e. done.among turn key has e);
    new_apart = λ turn other key has has_other e e_other. (let same = done.apart turn other key (has_of turns turn has) (has_of turns other has_other) e e_other in
        let sel = same.0 in let cls = same.1 in λ i. (sel i, cls i));
    others = others_keep;
  }
