-- What a stage leaves follows on what was held, and stands where it is settled.
use Rattle.std.proofs.Common.{◌≡◌, ◌==◌, ℕ, ◌<◌, ◌≤◌, Bool, true, List, [], ◌∷◌, get_or, Option, None, Some, is_some, All, Contains, inl, inr, sym, ap, subst, ◌∙◌, arith}
use Rattle.std.proofs.lemmas.Bool.{or_left, or_right, eqb-true, eq-eqb, true≢false}
use Rattle.std.proofs.lemmas.List.Elements.{All-get_or, All-head, All-tail, All-weaker}
use Rattle.slab.proofs.SlabLemmas.{Contains-cons_cases}
use Rattle.dt_pages.specs.Reading.{Reading}
use Rattle.dt_scratch.specs.Query.{Query, arity_of_query}
use Rattle.dt_scratch.specs.declared.reply.Change.{Change}
use Rattle.dt_cells.specs.Regions.{place_of}
use Rattle.dt_cells.specs.Held.{Held, IsInRange, Row, held_after, is_changed, IsStageableChange, IsStageable}
use Rattle.dt_cells.specs.HeldLaws.{by_cases, or_true, after_keeps, body_after}
use Rattle.dt_mrd.specs.declared.kept_row.KeptRow.{KeptRow}
use Rattle.dt_mrd.specs.declared.turn.Turn.{Turn}
use Rattle.dt_mrd.specs.Rows.{IsRow}
use Rattle.dt_mrd.specs.Reading.{owns, cell_at, tag_read}
use Rattle.dt_mrd.specs.Placing.{IsTabled, Shows, Rows, rows_of, HasPlaceWord, Places}
use Rattle.dt_mrd.specs.MrdStanding.{used_elsewhere}
use Rattle.dt_mrd.specs.Kept.{row_at, tag_in, key_of, AreKept, AreUsed, AreTaken}
use Rattle.dt_mrd.specs.Midway.{IsNow, tag_now, Midway}
use Rattle.dt_mrd.specs.Turns.{row_of_turn, has_turn, IsOfChange, tags_in, IsBatch, ArePlaced}
use Rattle.dt_mrd.proofs.KeptTrees.{key_row, tag_of_row}
use Rattle.dt_mrd.proofs.Midway.{now_owned, is_next, tag_done, tag_waits}
use Rattle.dt_mrd.proofs.Ending.{all_placed, all_placed_tags}
use Rattle.dt_mrd.proofs.TurnLists.{turn_at, turn_of}
use Rattle.dt_mrd.proofs.Touched.{no_turn, touches, kept_row, fresh_key, old_key, selector_below, key_before}
use Rattle.dt_mrd.proofs.OldKeys.{old_keys, old_of}

-- ---- changes

-- the selector of a change has one
changed_of : (changes : List Change) (change : Change) → Contains changes change → is_changed changes change.query.selector ≡ true
changed_of [] change there = absurd (omega (arith, there.1))
changed_of (c ∷ cs) change there = elim (Contains-cons_cases c change cs there) [
  | inl here ↦ or_left (c.query.selector == change.query.selector) (is_changed cs change.query.selector) (eq-eqb c.query.selector change.query.selector (ap (λ (d : Change). d.query.selector) here))
  | inr later ↦ or_right (c.query.selector == change.query.selector) (is_changed cs change.query.selector) (changed_of cs change later)
]

pub selector_in_range : (low high s : ℕ) (changes : List Change) → All (IsStageableChange low high) changes → is_changed changes s ≡ true → s < 4096
selector_in_range low high s [] each e = absurd (true≢false (sym e))
selector_in_range low high s (c ∷ cs) each e = elim (or_true (c.query.selector == s) (is_changed cs s) e) [
  | inl here ↦ (let small : c.query.selector < 4096 = (All-head (IsStageableChange low high) c cs each).range.selector in
      let same : c.query.selector ≡ s = eqb-true c.query.selector s here in
      omega (arith, small, same))
  | inr later ↦ selector_in_range low high s cs (All-tail (IsStageableChange low high) c cs each) later
]

-- what is held after a stage is what may be held
pub tabled_after : (low : ℕ) (held : Held) (changes : List Change) → 1 ≤ low → IsTabled held → IsStageable low 4 held changes → IsTabled (held_after held changes)
tabled_after low held changes some tabled able = record {
  range = after_keeps IsInRange held changes tabled.range
      (All-weaker (IsStageableChange low 4) (λ (c : Change). IsInRange c.query) (λ c is. is.range) changes able.each);
  some = after_keeps (λ q. 1 ≤ arity_of_query q) held changes tabled.some
      (All-weaker (IsStageableChange low 4) (λ (c : Change). 1 ≤ arity_of_query c.query) (λ c is. (let least : low ≤ arity_of_query c.query = is.least in omega (arith, least, some))) changes able.each);
  few = after_keeps (λ q. arity_of_query q ≤ 4) held changes tabled.few
      (All-weaker (IsStageableChange low 4) (λ (c : Change). arity_of_query c.query ≤ 4) (λ c is. is.greatest) changes able.each);
  body = body_after low 4 held changes tabled.body able.each;
  one_arity = able.one_arity;
}

pub batch_of : (low : ℕ) (x : Reading) (held : Held) (changes : List Change) → 1 ≤ low → Shows x held → IsStageable low 4 held changes → IsBatch x held changes
batch_of low x held changes some shows able = record {
  shows = shows;
  each = All-weaker (IsStageableChange low 4) (IsStageableChange 1 4) (λ c is. record {
    least = (let least : low ≤ arity_of_query c.query = is.least in omega (arith, least, some));
    greatest = is.greatest;
    range = is.range;
    body = is.body;
  }) changes able.each;
  tabled = tabled_after low held changes some shows.tabled able;
  few_rows = able.few_rows;
}

-- ---- all turns are over

midway_elsewhere : (rows : Rows) (done : Row → Bool) (d e : Reading) (used taken : ℕ → Bool) → IsTabled rows.next → Midway rows done d used taken
    → ((address : ℕ) → owns address ≡ true → e address ≡ d address) → Midway rows done e used taken
midway_elsewhere rows done d e used taken tabled m same = record {
  room = m.room;
  apart = m.apart;
  small = m.small;
  set = λ row class has. same (cell_at (tag_now rows done row) class) (now_owned rows done d used taken tabled m row class has) ∙ m.set row class has;
  rest = λ address own some. m.rest address own (λ z. some (same address own ∙ z));
  used_are = used_elsewhere used d e (λ address own. sym (same address own)) m.used_are;
  taken_by = m.taken_by;
  taken_of = m.taken_of;
}

module _ (x d e : Reading) (held : Held) (changes : List Change) (roots roots_then : List (Option ℕ)) (rows : ℕ → Option KeptRow) (fresh : List ℕ) (turns : List Turn) (used taken : ℕ → Bool)
    (are : ArePlaced x d held changes roots roots_then rows fresh turns turns used taken)
    (same : (address : ℕ) → owns address ≡ true → e address ≡ d address)
    (words : (s : ℕ) → is_changed changes s ≡ true → e (place_of s) ≡ tag_in (row_at rows (get_or roots_then s None))) where
  abbrev next : Held
  next = held_after held changes

  abbrev after : Row → ℕ
  after = tags_in roots_then rows

  abbrev all : Rows
  all = rows_of x held changes (tags_in roots_then rows)

  touched_changed : (row : Row) → has_turn turns row ≡ true → is_changed changes row.0 ≡ true
  touched_changed row t =
      let at = turn_at turns no_turn row t in
      let c = All-get_or (IsOfChange changes) turns at.index no_turn at.within are.turns_are.of_changes in
      let selectors : c.0.query.selector ≡ row.0 = ap (λ (q : Query). q.selector) c.2 ∙ ap (λ (r : Row). r.0) at.is in
      subst (λ s. is_changed changes s ≡ true) selectors (changed_of changes c.0 c.1)

  root_word : (s : ℕ) → is_changed changes s ≡ true → HasPlaceWord (held_after held changes) (tags_in roots_then rows) s (e (place_of s))
  root_word s t = elim (are.turns_are.new_rows.roots_are s (selector_in_range 1 4 s changes are.batch.each t)) [
    | inl a ↦ inl (a.0, words s t)
    | inr b ↦ inr (b.0, words s t ∙ ap (λ k. tag_in (row_at rows k)) b.1)
  ]

  midway : Midway (rows_of x held changes (tags_in roots_then rows)) (has_turn turns) e used taken
  midway = midway_elsewhere all (has_turn turns) d e used taken are.batch.tabled are.midway same

  pub placed : Places x held changes e
  placed = all_placed x held changes are.batch.shows are.batch.tabled after (has_turn turns) (has_turn turns)
      (touches x held changes roots roots_then rows fresh turns are.batch are.turns_are) e used taken midway
      (λ row t is. t) (λ row f. f) are.placed touched_changed root_word

  pub placed_tags : (row : Row) → placed.tags row ≡ tags_in roots_then rows row
  unfolding placed
  placed_tags row = all_placed_tags x held changes are.batch.shows are.batch.tabled after (has_turn turns) (has_turn turns)
      (touches x held changes roots roots_then rows fresh turns are.batch are.turns_are) e used taken midway
      (λ row t is. t) (λ row f. f) are.placed touched_changed root_word row

  is_now : (row : Row) → IsRow (held_after held changes) row → IsNow (rows_of x held changes (tags_in roots_then rows)) (has_turn turns) row
  is_now row is = by_cases (has_turn turns row)
      (λ t. inl (t, is))
      (λ f. inr (f, kept_row x held changes roots roots_then rows fresh turns are.batch are.turns_are row f is, is))

  tag_is : (row : Row) → IsRow (held_after held changes) row → tag_now (rows_of x held changes (tags_in roots_then rows)) (has_turn turns) row ≡ tags_in roots_then rows row
  tag_is row is = by_cases (has_turn turns row)
      (λ t. tag_done all (has_turn turns) row t)
      (λ f. tag_waits all (has_turn turns) row f ∙ sym ((touches x held changes roots roots_then rows fresh turns are.batch are.turns_are).tags row f is))

  pub used_after : AreUsed used e
  used_after = midway.used_are

  pub taken_after : AreTaken taken (tags_in roots_then rows) (held_after held changes)
  taken_after = record {
    of_rows = λ row is displacement t. are.midway.taken_by row (is_now row is) displacement (tag_is row is ∙ t);
    no_other = λ displacement t. (let n = are.midway.taken_of displacement t in
        let is = is_next all (has_turn turns) n.0 n.1 in
        (n.0, is, sym (tag_is n.0 is) ∙ n.2));
  }

  -- the keys of before are none of those of after
  not_old : (row : Row) (key : ℕ) → IsRow (held_after held changes) row → key_of roots_then rows row ≡ Some key → Contains (old_keys turns) key → ⊥
  not_old row key is at there =
      let o = old_of turns key there in
      let r : Row = row_of_turn (get_or turns o.index no_turn) in
      let old : key_of roots rows r ≡ Some key
      = sym (key_before x held changes roots roots_then rows fresh turns are.batch are.turns_are o.index o.within) ∙ o.is in
      let was : IsRow held r = key_row roots rows fresh (tag_read x) held are.batch.shows.tabled are.turns_are.old_rows r
      (selector_below x held changes roots roots_then rows fresh turns are.batch are.turns_are o.index o.within) (ap is_some old) in
      by_cases (has_turn turns row)
      (λ t. are.turns_are.old_rows.not_free r key was old
      (fresh_key x held changes roots roots_then rows fresh turns are.batch are.turns_are row key t at))
      (λ f. (let own : IsRow held row = kept_row x held changes roots roots_then rows fresh turns are.batch are.turns_are row f is in
      let tag = tag_of_row roots rows fresh (tag_read x) held are.batch.shows.tabled are.turns_are.old_rows in
      let keys : key_of roots rows row ≡ key_of roots rows r
      = old_key x held changes roots roots_then rows fresh turns are.batch are.turns_are row key f is at ∙ sym old in
      let one : row ≡ r = are.batch.shows.apart row r own was (sym (tag row own) ∙ ap (λ k. tag_in (row_at rows k)) keys ∙ tag r was) in
      true≢false (sym (turn_of turns o.index no_turn o.within) ∙ ap (has_turn turns) (sym one) ∙ f)))

  pub rows_after : AreKept roots_then rows (old_keys turns) (tags_in roots_then rows) (held_after held changes)
  rows_after = record { roots_are = are.turns_are.new_rows.roots_are; row = are.turns_are.new_rows.row; not_free = not_old }
