-- Which rows the turns of a batch touch: every other row is as before, and each is kept under a key of its own.
use Rattle.std.proofs.Common.{◌≡◌, ◌≢◌, ℕ, zero, suc, ◌+◌, ◌-◌, ◌<◌, true, false, List, [], ◌∷◌, ◌++◌, take, get_or, length, Option, None, Some, is_some, Contains, refl, sym, ap, subst, ◌∙◌, arith}
use Rattle.std.proofs.lemmas.Bool.{true≢false}
use Rattle.std.proofs.lemmas.List.{length-append, take-take, length-take-le}
use Rattle.std.proofs.lemmas.List.Elements.{All-get_or, All-contains, Contains-get_or}
use Rattle.std.proofs.Math.Seq.{take-append_seam}
use Rattle.dt_pages.specs.Reading.{Reading}
use Rattle.dt_scratch.specs.Query.{Query, is_same_query}
use Rattle.dt_scratch.specs.declared.reply.Answer.{Answer}
use Rattle.dt_scratch.specs.declared.reply.Change.{Change}
use Rattle.dt_cells.specs.Held.{Held, Row, held_after, IsStageableChange}
use Rattle.dt_cells.specs.HeldLaws.{by_cases, if_true, if_false, same_query}
use Rattle.dt_placing.specs.Rows.{is_understood}
use Rattle.dt_mrd.specs.declared.kept_row.KeptRow.{KeptRow}
use Rattle.dt_mrd.specs.declared.turn.Turn.{Turn}
use Rattle.dt_mrd.specs.Rows.{sent, next_row, HasIndex, IsRow}
use Rattle.dt_mrd.specs.Reading.{tag_read}
use Rattle.dt_mrd.specs.ReadingLaws.{next_is_row}
use Rattle.dt_mrd.specs.Placing.{Rows, rows_of, code_of, code_of_answer}
use Rattle.dt_mrd.specs.Kept.{row_at, tag_in, next_in, code_in, key_of}
use Rattle.dt_mrd.specs.Laying.{has_cell, HasClasses}
use Rattle.dt_mrd.specs.Midway.{Touches, WasRowOf, IsRowOf}
use Rattle.dt_mrd.specs.Turns.{row_of_turn, has_turn, IsOfChange, tags_in, with_tag, AreTurns, IsBatch}
use Rattle.dt_mrd.proofs.KeptTrees.{key_row, row_has_key, has_cell_of, cell_index, classes_of_row, tag_of_row, tag_row, tag_small, code_of_cell}
use Rattle.dt_mrd.proofs.TurnLists.{turn_at}
use Rattle.dt_mrd.proofs.Retagging.{key_same, other_row, own_row}

-- a turn of no row
abbrev pub no_turn : Turn
no_turn = record { query = record { selector = 0; classes = [] }; depth = 0; old = None; new = None }

-- the turn at an index
pub turn_found : (turns : List Turn) (i : ℕ) (turn : Turn) → i < length turns → turn ≡ get_or turns i turn → turn ≡ get_or turns i no_turn
turn_found [] i turn below e = absurd (omega (arith, below))
turn_found (t ∷ ts) zero turn below e = e
turn_found (t ∷ ts) (suc i) turn below e = turn_found ts i turn (omega (arith, below)) e

-- a query that isn't that of a change keeps its answer
unchanged : (held : Held) (changes : List Change) (q : Query) → ((change : Change) → Contains changes change → change.query ≢ q) → held_after held changes q ≡ held q
unchanged held [] q none = refl
unchanged held (c ∷ cs) q none =
    if_false (is_same_query c.query q) c.answer (held_after held cs q)
    (by_cases (is_same_query c.query q) (λ t. absurd (none c (0, omega arith, refl) (same_query c.query q t))) (λ f. f))
    ∙ unchanged held cs q (λ d there. none d (suc there.0, omega (arith, there.1), there.2))

-- the code of a cell depends on the tag of the row to which it leads alone
pub code_beside : (a b : Row → ℕ) (held : Held) (row : Row) (class : ℕ) → (IsRow held (next_row row class) → a (next_row row class) ≡ b (next_row row class))
    → HasIndex held row class → code_of held a row class ≡ code_of held b row class
code_beside a b held row class same has =
    let v : Answer = held (sent row.0 (row.1 ++ (class ∷ []))) in
    by_cases (is_understood v)
    (λ t. if_true (is_understood v) (code_of_answer v) (a (next_row row class)) t ∙ sym (if_true (is_understood v) (code_of_answer v) (b (next_row row class)) t))
    (λ f. if_false (is_understood v) (code_of_answer v) (a (next_row row class)) f ∙ same (next_is_row held row.0 row.1 class has f)
    ∙ sym (if_false (is_understood v) (code_of_answer v) (b (next_row row class)) f))

module _ (x : Reading) (held : Held) (changes : List Change) (roots roots_then : List (Option ℕ)) (rows : ℕ → Option KeptRow) (fresh : List ℕ) (turns : List Turn)
    (batch : IsBatch x held changes) (are : AreTurns x held changes roots roots_then rows fresh turns) where
  abbrev next : Held
  next = held_after held changes

  abbrev after : Row → ℕ
  after = tags_in roots_then rows

  -- ---- rows without a turn

  same_answer : (row : Row) (class : ℕ) (rest : List ℕ) → has_turn turns row ≡ false
      → held_after held changes (sent row.0 (row.1 ++ (class ∷ rest))) ≡ held (sent row.0 (row.1 ++ (class ∷ rest)))
  same_answer row class rest f = unchanged held changes (sent row.0 (row.1 ++ (class ∷ rest))) (λ change there same.
      (let long : length (row.1 ++ (class ∷ rest)) ≡ length row.1 + suc (length rest) = length-append row.1 (class ∷ rest) in
      let arity : length change.query.classes ≡ length (row.1 ++ (class ∷ rest)) = ap (λ (q : Query). length q.classes) same in
      let has : has_turn turns (change.query.selector, take (length row.1) change.query.classes) ≡ true
      = are.of_all change there (length row.1) (omega (arith, long, arity)) in
      let selectors : change.query.selector ≡ row.0 = ap (λ (q : Query). q.selector) same in
      let prefixes : take (length row.1) change.query.classes ≡ row.1
      = ap (λ (q : Query). take (length row.1) q.classes) same ∙ take-append_seam row.1 (class ∷ rest) in
      let one : (change.query.selector, take (length row.1) change.query.classes) ≡ row = (λ i. (selectors i, prefixes i)) in
      true≢false (sym (subst (λ (r : Row). has_turn turns r ≡ true) one has) ∙ f)))

  pub kept_index : (row : Row) (class : ℕ) → has_turn turns row ≡ false → HasIndex (held_after held changes) row class → HasIndex held row class
  kept_index row class f has = (has.0, λ e. has.1 (same_answer row class has.0 f ∙ e))

  keeps_index : (row : Row) (class : ℕ) → has_turn turns row ≡ false → HasIndex held row class → HasIndex (held_after held changes) row class
  keeps_index row class f has = (has.0, λ e. has.1 (sym (same_answer row class has.0 f) ∙ e))

  pub kept_row : (row : Row) → has_turn turns row ≡ false → IsRow (held_after held changes) row → IsRow held row
  kept_row row f is = (is.0, kept_index row is.0 f is.1)

  -- the change of the turn of a row
  of_change : (row : Row) (e : has_turn turns row ≡ true) → IsOfChange changes (get_or turns (turn_at turns no_turn row e).index no_turn)
  of_change row e = let at = turn_at turns no_turn row e in All-get_or (IsOfChange changes) turns at.index no_turn at.within are.of_changes

  -- where a row has a turn, so has the row that leads to it
  turn_before : (row : Row) (class : ℕ) → has_turn turns (next_row row class) ≡ true → has_turn turns row ≡ true
  turn_before row class e =
      let at = turn_at turns no_turn (next_row row class) e in
      let turn : Turn = get_or turns at.index no_turn in
      let c = of_change (next_row row class) e in
      let queries : c.0.query ≡ turn.query = c.2 in
      let deep : turn.depth < length turn.query.classes = c.3 in
      let child : take turn.depth turn.query.classes ≡ row.1 ++ (class ∷ []) = ap (λ (r : Row). r.1) at.is in
      let taken : length (take turn.depth turn.query.classes) ≡ turn.depth = length-take-le turn.depth turn.query.classes (omega (arith, deep)) in
      let long : length (row.1 ++ (class ∷ [])) ≡ length row.1 + 1 = length-append row.1 (class ∷ []) in
      let same : length (take turn.depth turn.query.classes) ≡ length (row.1 ++ (class ∷ [])) = ap length child in
      let arity : length c.0.query.classes ≡ length turn.query.classes = ap (λ (q : Query). length q.classes) queries in
      let depth : length row.1 + 1 ≡ turn.depth = omega (arith, taken, long, same) in
      let has : has_turn turns (c.0.query.selector, take (length row.1) c.0.query.classes) ≡ true
      = are.of_all c.0 c.1 (length row.1) (omega (arith, depth, deep, arity)) in
      let selectors : c.0.query.selector ≡ row.0 = ap (λ (q : Query). q.selector) queries ∙ ap (λ (r : Row). r.0) at.is in
      let prefixes : take (length row.1) c.0.query.classes ≡ row.1
      = ap (λ (q : Query). take (length row.1) q.classes) queries
      ∙ sym (take-take (length row.1) turn.depth turn.query.classes (omega (arith, depth)))
      ∙ ap (take (length row.1)) child ∙ take-append_seam row.1 (class ∷ []) in
      let one : (c.0.query.selector, take (length row.1) c.0.query.classes) ≡ row = (λ i. (selectors i, prefixes i)) in
      subst (λ (r : Row). has_turn turns r ≡ true) one has

  same_tag : (row : Row) → has_turn turns row ≡ false → IsRow (held_after held changes) row → tags_in roots_then rows row ≡ tag_read x row
  same_tag row f is = ap (λ k. tag_in (row_at rows k)) (are.others row f is)
      ∙ tag_of_row roots rows fresh (tag_read x) held batch.shows.tabled are.old_rows row (kept_row row f is)

  same_code : (row : Row) (class : ℕ) → has_turn turns row ≡ false → HasIndex (held_after held changes) row class
      → code_of held (tag_read x) row class ≡ code_of (held_after held changes) (tags_in roots_then rows) row class
  same_code row class f has =
      let v : Answer = held (sent row.0 (row.1 ++ (class ∷ []))) in
      let w : Answer = next (sent row.0 (row.1 ++ (class ∷ []))) in
      let same : w ≡ v = same_answer row class [] f in
      by_cases (is_understood w)
      (λ t. if_true (is_understood v) (code_of_answer v) (tag_read x (next_row row class)) (ap is_understood (sym same) ∙ t)
      ∙ ap code_of_answer (sym same)
      ∙ sym (if_true (is_understood w) (code_of_answer w) (after (next_row row class)) t))
      (λ u. (let child : IsRow next (next_row row class) = next_is_row next row.0 row.1 class has u in
      let waits : has_turn turns (next_row row class) ≡ false = by_cases (has_turn turns (next_row row class))
      (λ t. absurd (true≢false (sym (turn_before row class t) ∙ f))) (λ g. g) in
      if_false (is_understood v) (code_of_answer v) (tag_read x (next_row row class)) (ap is_understood (sym same) ∙ u)
      ∙ sym (same_tag (next_row row class) waits child)
      ∙ sym (if_false (is_understood w) (code_of_answer w) (after (next_row row class)) u)))

  pub touches : Touches (rows_of x held changes (tags_in roots_then rows)) (has_turn turns)
  touches = record { codes = same_code; kept = kept_index; keeps = keeps_index; tags = same_tag }

  -- ---- keys

  -- a row with a turn has its new key
  new_key : (row : Row) (e : has_turn turns row ≡ true) → (get_or turns (turn_at turns no_turn row e).index no_turn).new ≡ key_of roots_then rows row
  new_key row e =
      let at = turn_at turns no_turn row e in
      All-get_or (λ (turn : Turn). turn.new ≡ key_of roots_then rows (row_of_turn turn)) turns at.index no_turn at.within are.new_keys
      ∙ ap (key_of roots_then rows) at.is

  pub fresh_key : (row : Row) (key : ℕ) → has_turn turns row ≡ true → key_of roots_then rows row ≡ Some key → Contains fresh key
  fresh_key row key e is =
      let at = turn_at turns no_turn row e in
      All-get_or (λ (turn : Turn). (k : ℕ) → turn.new ≡ Some k → Contains fresh k) turns at.index no_turn at.within are.new_fresh key (new_key row e ∙ is)

  pub old_key : (row : Row) (key : ℕ) → has_turn turns row ≡ false → IsRow (held_after held changes) row → key_of roots_then rows row ≡ Some key → key_of roots rows row ≡ Some key
  old_key row key f is e = sym (are.others row f is) ∙ e

  not_both : (row other : Row) (key : ℕ) → has_turn turns row ≡ true → has_turn turns other ≡ false → IsRow (held_after held changes) other
      → key_of roots_then rows row ≡ Some key → key_of roots_then rows other ≡ Some key → ⊥
  not_both row other key t f is e g = are.old_rows.not_free other key (kept_row other f is) (old_key other key f is g) (fresh_key row key t e)

  -- each row of after has a key of its own
  keys_apart : (row other : Row) (key : ℕ) → IsRow (held_after held changes) row → IsRow (held_after held changes) other
      → key_of roots_then rows row ≡ Some key → key_of roots_then rows other ≡ Some key → row ≡ other
  keys_apart row other key is has e g = by_cases (has_turn turns row)
      (λ t. by_cases (has_turn turns other)
      (λ u. (let at = turn_at turns no_turn row t in
      let there = turn_at turns no_turn other u in
      sym at.is
      ∙ are.new_apart (get_or turns at.index no_turn) (get_or turns there.index no_turn) key (Contains-get_or turns at.index no_turn at.within)
      (Contains-get_or turns there.index no_turn there.within) (new_key row t ∙ e) (new_key other u ∙ g)
      ∙ there.is))
      (λ f. absurd (not_both row other key t f has e g)))
      (λ f. by_cases (has_turn turns other)
      (λ u. absurd (not_both other row key u f is g e))
      (λ h. (let first = kept_row row f is in
      let second = kept_row other h has in
      let tag = tag_of_row roots rows fresh (tag_read x) held batch.shows.tabled are.old_rows in
      batch.shows.apart row other first second
      (sym (tag row first) ∙ ap (λ k. tag_in (row_at rows k)) (old_key row key f is e ∙ sym (old_key other key h has g)) ∙ tag other second))))

  -- ---- where the row of a turn gets its tag

  module _ (row : Row) (is : IsRow (held_after held changes) row) (key tag : ℕ) (at : key_of roots_then rows row ≡ Some key) where
    pub own_tag_after : tags_in roots_then (with_tag rows key tag) row ≡ tag
    own_tag_after =
        let k = are.new_rows.row row is in
        let same : Some k.0 ≡ Some key = sym k.2 ∙ at in
        let one : k.0 ≡ key = cc in
        ap (λ o. tag_in (row_at (with_tag rows key tag) o)) (key_same roots_then rows key tag row ∙ at)
        ∙ ap tag_in (own_row rows key tag k.1 (ap rows (sym one) ∙ k.3))

    pub same_tags_after : (other : Row) → other ≢ row → IsRow (held_after held changes) other
        → tags_in roots_then (with_tag rows key tag) other ≡ tags_in roots_then rows other
    same_tags_after other differs has =
        let k = are.new_rows.row other has in
        let apart : k.0 ≢ key = (λ e. differs (keys_apart other row key has is (k.2 ∙ ap Some e) at)) in
        ap (λ o. tag_in (row_at (with_tag rows key tag) o)) (key_same roots_then rows key tag other ∙ k.2)
        ∙ ap tag_in (other_row rows key tag k.0 apart)
        ∙ sym (ap (λ o. tag_in (row_at rows o)) k.2)

  -- ---- the row of a turn

  module _ (i : ℕ) (below : i < length turns) where
    abbrev turn : Turn
    turn = get_or turns i no_turn

    pub selector_below : (row_of_turn (get_or turns i no_turn)).0 < 4096
    selector_below =
        let c = All-get_or (IsOfChange changes) turns i no_turn below are.of_changes in
        let small : c.0.query.selector < 4096 = (All-contains (IsStageableChange 1 4) changes c.0 batch.each c.1).range.selector in
        let same : c.0.query.selector ≡ turn.query.selector = ap (λ (q : Query). q.selector) c.2 in
        omega (arith, small, same)

    pub key_before : (get_or turns i no_turn).old ≡ key_of roots rows (row_of_turn (get_or turns i no_turn))
    key_before = All-get_or (λ (turn : Turn). turn.old ≡ key_of roots rows (row_of_turn turn)) turns i no_turn below are.old_keys

    pub key_after : (get_or turns i no_turn).new ≡ key_of roots_then rows (row_of_turn (get_or turns i no_turn))
    key_after = All-get_or (λ (turn : Turn). turn.new ≡ key_of roots_then rows (row_of_turn turn)) turns i no_turn below are.new_keys

    pub fresh_after : (key : ℕ) → (get_or turns i no_turn).new ≡ Some key → Contains fresh key
    fresh_after = All-get_or (λ (turn : Turn). (key : ℕ) → turn.new ≡ Some key → Contains fresh key) turns i no_turn below are.new_fresh

    pub small_before : tag_in (row_at rows (get_or turns i no_turn).old) - 1 < 67106816
    small_before = subst (λ k. tag_in (row_at rows k) - 1 < 67106816) (sym key_before)
        (tag_small roots rows fresh (tag_read x) held batch.shows.tabled are.old_rows (row_of_turn (get_or turns i no_turn)) selector_below batch.shows.room)

    pub classes_before : HasClasses (row_at rows (get_or turns i no_turn).old)
    classes_before = subst (λ k. HasClasses (row_at rows k)) (sym key_before)
        (classes_of_row roots rows fresh (tag_read x) held batch.shows.tabled are.old_rows (row_of_turn (get_or turns i no_turn)) selector_below)

    pub classes_after : HasClasses (row_at rows (get_or turns i no_turn).new)
    classes_after = subst (λ k. HasClasses (row_at rows k)) (sym key_after)
        (classes_of_row roots_then rows [] (tags_in roots_then rows) (held_after held changes) batch.tabled are.new_rows (row_of_turn (get_or turns i no_turn)) selector_below)

    pub was_row : WasRowOf (rows_of x held changes (tags_in roots_then rows)) (row_of_turn (get_or turns i no_turn)) (tag_in (row_at rows (get_or turns i no_turn).old))
        (has_cell (row_at rows (get_or turns i no_turn).old)) (has_cell (row_at rows (get_or turns i no_turn).new)) (is_some (get_or turns i no_turn).new)
    was_row =
        let r : Row = row_of_turn turn in
        let all : Rows = rows_of x held changes (tags_in roots_then rows) in
        subst (λ k. WasRowOf all r (tag_in (row_at rows k)) (has_cell (row_at rows k)) (has_cell (row_at rows turn.new)) (is_some turn.new)) (sym key_before)
        (subst (λ k. WasRowOf all r (tag_in (row_at rows (key_of roots rows r))) (has_cell (row_at rows (key_of roots rows r))) (has_cell (row_at rows k)) (is_some k)) (sym key_after)
        (record {
          old_is = λ class e. cell_index roots rows fresh (tag_read x) held batch.shows.tabled are.old_rows r class selector_below e;
          old_has = λ class has. has_cell_of roots rows fresh (tag_read x) held batch.shows.tabled are.old_rows r class has;
          new_is = λ class e. cell_index roots_then rows [] after next batch.tabled are.new_rows r class selector_below e;
          new_has = λ class has. has_cell_of roots_then rows [] after next batch.tabled are.new_rows r class has;
          was = λ some. tag_row roots rows fresh (tag_read x) held batch.shows.tabled are.old_rows r selector_below some;
          before_is = λ is. tag_of_row roots rows fresh (tag_read x) held batch.shows.tabled are.old_rows r is;
          stays_is = λ e. key_row roots_then rows [] after next batch.tabled are.new_rows r selector_below e;
          stays_has = λ is. row_has_key roots_then rows [] after next batch.tabled are.new_rows r is;
        }))

    pub is_row : is_some (get_or turns i no_turn).new ≡ true → IsRow (held_after held changes) (row_of_turn (get_or turns i no_turn))
    is_row e = was_row.stays_is e

    pub no_row : (get_or turns i no_turn).new ≡ None → IsRow (held_after held changes) (row_of_turn (get_or turns i no_turn)) → ⊥
    no_row none is = true≢false (sym (was_row.stays_has is) ∙ ap is_some none)

    pub row_now : is_some (get_or turns i no_turn).new ≡ true
        → IsRowOf (rows_of x held changes (tags_in roots_then rows)) (row_of_turn (get_or turns i no_turn)) (tag_in (row_at rows (get_or turns i no_turn).old))
        (has_cell (row_at rows (get_or turns i no_turn).old)) (has_cell (row_at rows (get_or turns i no_turn).new))
    row_now e = let w = was_row in record {
      old_is = w.old_is;
      old_has = w.old_has;
      new_is = w.new_is;
      new_has = w.new_has;
      was = w.was;
      before_is = w.before_is;
      is = w.stays_is e;
    }

    -- the codes of its cells
    pub code_after : (class : ℕ) → has_cell (row_at rows (get_or turns i no_turn).new) class ≡ true
        → code_in rows (next_in (row_at rows (get_or turns i no_turn).new) class)
        ≡ code_of (held_after held changes) (tags_in roots_then rows) (row_of_turn (get_or turns i no_turn)) class
    code_after class e = ap (λ k. code_in rows (next_in (row_at rows k) class)) key_after
        ∙ code_of_cell roots_then rows [] after next batch.tabled are.new_rows (row_of_turn turn) class (was_row.new_is class e)
