-- The selectors of a batch, one after another.
use Rattle.std.proofs.Common.{◌≡◌, ◌≢◌, ◌==◌, ℕ, zero, suc, ◌<◌, ◌≤◌, Bool, true, false, if◌then◌else◌, List, [], ◌∷◌, ◌++◌, length, take, drop, get_or, set, Option, Some, None, is_some, Contains, ◌⊎◌, inl, inr, refl, sym, ap, subst, ◌∙◌, arith}
use Rattle.std.specs.Prelude.{nat_lt}
use Rattle.std.proofs.lemmas.Bool.{eqb-true, eq-eqb, or_left, true≢false}
use Rattle.std.proofs.lemmas.List.{length-append, get_or-set_same, get_or-set_other}
use Rattle.dt_scratch.specs.Query.{Query}
use Rattle.dt_scratch.specs.declared.reply.Change.{Change}
use Rattle.dt_cells.specs.Held.{Held}
use Rattle.dt_cells.specs.HeldLaws.{by_cases, if_true, if_false}
use Rattle.dt_placing.specs.Turn.{run_of}
use Rattle.dt_placing.specs.PlacingLaws.{lt_test, lt_tested}
use Rattle.dt_placing.specs.RowsLaws.{not_understood}
use Rattle.dt_placing.specs.Rows.{is_understood}
use Rattle.dt_mrd.specs.declared.staged.StagedRoot.{StagedRoot}
use Rattle.dt_mrd.specs.declared.turn.Turn.{Turn}
use Rattle.dt_mrd.specs.Rows.{sent, IsRow}
use Rattle.dt_mrd.specs.Placing.{IsTabled}
use Rattle.dt_mrd.specs.Kept.{row_at, next_in, key_of_next, key_along, with_roots}
use Rattle.dt_mrd.specs.ReadingLaws.{row_of as index_row, index_before, row_is_short}
use Rattle.dt_mrd.specs.Levels.{KeptAt, Extends, prefix_of, AreLevels, IsFirstSelector, AreSelectors}
use Rattle.dt_mrd.proofs.LevelLists.{Has, in_parts, in_both, of_first, of_second, of_take, of_drop}
use Rattle.dt_mrd.proofs.LevelOrder.{length_prefix}
use Rattle.dt_mrd.proofs.LevelCell.{answer_at}
use Rattle.dt_mrd.proofs.LevelRow.{IsAt, at_still}
use Rattle.dt_mrd.proofs.LevelOver.{key_snoc, key_kept}
use Rattle.dt_mrd.proofs.LevelKeys.{last_class}
use Rattle.dt_mrd.proofs.LevelSelector.{IsEarlier, AreSorted, row_of, AreOrdered, ordered_both, IsGiven, AreOver, selector_over}
use Rattle.dt_mrd.proofs.LevelSteps.{extends_none, extends_then, no_row_before}

-- ---- where there is no row

pub at_none : (rows : KeptAt) (held : Held) (s : ℕ) (p : List ℕ) → (IsRow held (s, p) → ⊥) → IsAt rows None held s p
at_none rows held s p none = record {
  cells = λ class. (
    by_cases (is_understood (answer_at held s p class))
        (λ t. absurd (none (index_row held (s, p) class ([], not_understood (answer_at held s p class) t))))
        (λ f. f),
    λ on. none (index_row held (s, p) class (index_before held s p class on)),
  );
  there = λ k e. absurd (true≢false (sym (ap is_some e)));
  none = λ e is. none is;
}

no_key : (rows : KeptAt) (key : Option ℕ) (held : Held) (s : ℕ) (p : List ℕ) → IsAt rows key held s p → (IsRow held (s, p) → ⊥) → key ≡ None
no_key rows None held s p at none = refl
no_key rows (Some k) held s p at none = absurd (none (at.there k refl).0)

-- prefixes of more than four classes are those of no row
pub at_all : (rows : KeptAt) (key : Option ℕ) (held : Held) (s : ℕ) → IsTabled held → ((p : List ℕ) → length p ≤ 4 → IsAt rows (key_along rows key p) held s p)
    → (n : ℕ) (p : List ℕ) → length p ≡ n → IsAt rows (key_along rows key p) held s p
at_all rows key held s tabled at zero p long = at p (omega (arith, long))
at_all rows key held s tabled at (suc n) p long = by_cases (nat_lt n 4)
    (λ t. at p (let short : n < 4 = lt_tested n 4 t in omega (arith, long, short)))
    (λ f. (let is = last_class n p long in
    let shorter : length (take n p) ≡ n = length_prefix n p (omega (arith, long)) in
    let before = at_all rows key held s tabled at n (take n p) shorter in
    let none : IsRow held (s, take n p) → ⊥ = λ row. (let short = row_is_short held s (take n p) tabled row in
    true≢false (sym (lt_test n 4 (omega (arith, short, shorter))) ∙ f)) in
    let key_none : key_along rows key (take n p ++ (get_or p n 0 ∷ [])) ≡ None = key_snoc rows key (take n p) (get_or p n 0)
    ∙ ap (λ (k : Option ℕ). key_of_next (next_in (row_at rows k) (get_or p n 0))) (no_key rows (key_along rows key (take n p)) held s (take n p) before none) in
    subst (λ (l : List ℕ). IsAt rows (key_along rows key l) held s l) (sym is)
    (subst (λ (k : Option ℕ). IsAt rows k held s (take n p ++ (get_or p n 0 ∷ []))) (sym key_none)
    (at_none rows held s (take n p ++ (get_or p n 0 ∷ [])) (λ row. none (index_row held (s, take n p) (get_or p n 0) (index_before held s (take n p) (get_or p n 0) row)))))))

-- ---- the changes of a selector

-- one change comes before another
abbrev pub IsSooner : Change → Change → Type 0
IsSooner change other =
    (change.query.selector < other.query.selector) ⊎ ((change.query.selector ≡ other.query.selector) × IsEarlier change other)

abbrev pub AreInTurn : List Change → Type 0
AreInTurn [] = Unit {0}
AreInTurn (first ∷ changes) = ((change : Change) → Has changes change → IsSooner first change) × AreInTurn changes

in_turn_drop : (count : ℕ) (changes : List Change) → AreInTurn changes → AreInTurn (drop count changes)
in_turn_drop zero changes up = up
in_turn_drop (suc count) [] up = tt
in_turn_drop (suc count) (first ∷ changes) up = in_turn_drop count changes up.1

sorted_own : (s : ℕ) (changes : List Change) → AreInTurn changes → ((change : Change) → Has changes change → change.query.selector ≡ s) → AreSorted changes
sorted_own s [] up own = tt
sorted_own s (first ∷ changes) up own = (
  λ change has. elim (up.0 change has) [
    | inl less ↦ absurd (let one = own first (inl refl) in let other = own change (inr has) in omega (arith, less, one, other))
    | inr same ↦ same.1
  ],
  sorted_own s changes up.1 (λ change has. own change (inr has)),
)

in_turn_take : (count : ℕ) (changes : List Change) → AreInTurn changes → AreInTurn (take count changes)
in_turn_take zero changes up = tt
in_turn_take (suc count) [] up = tt
in_turn_take (suc count) (first ∷ changes) up = (λ change has. up.0 change (of_take count changes change has), in_turn_take count changes up.1)

run_own : (s : ℕ) (changes : List Change) (change : Change) → Has (take (run_of s changes) changes) change → change.query.selector ≡ s
run_own s [] change has = absurd (of_take (run_of s []) [] change has)
run_own s (first ∷ changes) change has = go (run_own s changes change) (first.query.selector == s) refl has
  where
    go : (Has (take (run_of s changes) changes) change → change.query.selector ≡ s) → (b : Bool) → (first.query.selector == s) ≡ b → Has (take (if b then suc (run_of s changes) else 0) (first ∷ changes)) change → change.query.selector ≡ s
    go rest true e has = elim has [
      | inl is ↦ ap (λ (c : Change). c.query.selector) (sym is) ∙ eqb-true first.query.selector s e
      | inr later ↦ rest later
    ]
    go rest false e has = absurd has

not_sooner : (change other : Change) → IsSooner change other → change.query.selector ≤ other.query.selector
not_sooner change other sooner = elim sooner [ inl less ↦ omega (arith, less) | inr same ↦ (let e = same.0 in omega (arith, e)) ]

run_after : (s : ℕ) (changes : List Change) → AreInTurn changes → ((change : Change) → Has changes change → s ≤ change.query.selector)
    → (change : Change) → Has (drop (run_of s changes) changes) change → s < change.query.selector
run_after s [] up least change has = absurd (of_drop (run_of s []) [] change has)
run_after s (first ∷ changes) up least change has = go (run_after s changes up.1 (λ c later. least c (inr later)) change) (first.query.selector == s) refl has
  where
    greater : (n : ℕ) → n ≢ s → s ≤ n → s < n
    greater n differs at_least = omega (arith, differs, at_least)

    go : (Has (drop (run_of s changes) changes) change → s < change.query.selector) → (b : Bool) → (first.query.selector == s) ≡ b → Has (drop (if b then suc (run_of s changes) else 0) (first ∷ changes)) change → s < change.query.selector
    go rest true e has = rest has
    go rest false e has =
        let differs : first.query.selector ≢ s = λ same. true≢false (sym (eq-eqb first.query.selector s same) ∙ e) in
        let at_least : s ≤ first.query.selector = least first (inl refl) in
        let more : s < first.query.selector = greater first.query.selector differs at_least in
        elim has [
          | inl is ↦ subst (λ (c : Change). s < c.query.selector) is more
          | inr later ↦ (let after = not_sooner first change (up.0 change later) in omega (arith, more, after))
        ]

least_first : (s : ℕ) (changes : List Change) → IsFirstSelector changes s → AreInTurn changes → (change : Change) → Has changes change → s ≤ change.query.selector
least_first s [] is up change has = absurd has
least_first s (first ∷ changes) is up change has = elim has [
  | inl same ↦ (let e : change.query.selector ≡ s = ap (λ (c : Change). c.query.selector) (sym same) ∙ is in omega (arith, e))
  | inr later ↦ (let after = not_sooner first change (up.0 change later) in let e : first.query.selector ≡ s = is in omega (arith, after, e))
]

first_of_run : (s : ℕ) (changes : List Change) → IsFirstSelector changes s → (change : Change) × Has changes change × (change.query.selector ≡ s)
first_of_run s [] is = absurd is
first_of_run s (first ∷ changes) is = (first, inl refl, is)

-- ---- the keys of selectors

-- the key of a selector after some others are put
abbrev pub root_in : List StagedRoot → ℕ → Option ℕ → Option ℕ
root_in [] s before = before
root_in (root ∷ staged) s before = root_in staged s (if root.selector == s then root.key else before)

pub root_other : (staged : List StagedRoot) (s : ℕ) (before : Option ℕ) → ((root : StagedRoot) → Has staged root → root.selector ≢ s) → root_in staged s before ≡ before
root_other [] s before none = refl
root_other (first ∷ staged) s before none =
    root_other staged s (if first.selector == s then first.key else before) (λ root has. none root (inr has))
    ∙ if_false (first.selector == s) first.key before (by_cases (first.selector == s) (λ t. absurd (none first (inl refl) (eqb-true first.selector s t))) (λ f. f))

get_set : (roots : List (Option ℕ)) (at s : ℕ) (key : Option ℕ) → s < length roots → get_or (set roots at key) s None ≡ (if at == s then key else get_or roots s None)
get_set roots at s key within = by_cases (at == s)
    (λ t. ap (λ n. get_or (set roots n key) s None) (eqb-true at s t) ∙ get_or-set_same roots s key None within ∙ sym (if_true (at == s) key (get_or roots s None) t))
    (λ f. get_or-set_other roots at s key None (λ same. true≢false (sym (eq-eqb at s (sym same)) ∙ f)) ∙ sym (if_false (at == s) key (get_or roots s None) f))

set_long : (roots : List (Option ℕ)) (at : ℕ) (key : Option ℕ) → length (set roots at key) ≡ length roots
set_long [] at key = refl
set_long (r ∷ rs) zero key = refl
set_long (r ∷ rs) (suc at) key = ap suc (set_long rs at key)

pub root_is : (staged : List StagedRoot) (roots : List (Option ℕ)) (s : ℕ) → s < length roots → get_or (with_roots staged roots) s None ≡ root_in staged s (get_or roots s None)
root_is [] roots s within = refl
root_is (first ∷ staged) roots s within =
    root_is staged (set roots first.selector first.key) s (subst (λ n. s < n) (sym (set_long roots first.selector first.key)) within)
    ∙ ap (root_in staged s) (get_set roots first.selector s first.key within)

module _ (held next : Held) (tabled : IsTabled held) (tabled_next : IsTabled next) (roots : List (Option ℕ)) (rows0 : KeptAt)
    (old : (s : ℕ) → s < 4096 → (p : List ℕ) → IsAt rows0 (key_along rows0 (get_or roots s None) p) held s p) where
  -- what is known where the selectors below a bound had their turns
  pub record AreGiven (low : ℕ) (rows : KeptAt) (changes : List Change) : Type 0 where
    pub kept : (k : ℕ) → is_some (rows0 k) ≡ true → rows k ≡ rows0 k
    pub up : AreInTurn changes
    pub above : (change : Change) → Has changes change → low ≤ change.query.selector
    pub range : (change : Change) → Has changes change → change.query.selector < 4096
    pub few : (change : Change) → Has changes change → length change.query.classes ≤ 4
    pub answers : (change : Change) → Has changes change → next change.query ≡ change.answer
    pub unchanged : (s : ℕ) (classes : List ℕ) → low ≤ s → ((change : Change) → Has changes change → change.query ≢ sent s classes) → next (sent s classes) ≡ held (sent s classes)

  -- the key of a selector's row of the empty prefix after
  abbrev pub root_then : List StagedRoot → ℕ → Option ℕ
  root_then staged s = root_in staged s (get_or roots s None)

  pub record IsDone (staged : List StagedRoot) (rows_then : KeptAt) (turn : Turn) : Type 0 where
    pub long : turn.depth < length turn.query.classes
    pub old_is : turn.old ≡ key_along rows0 (get_or roots turn.query.selector None) (row_of turn)
    pub new_is : key_along rows_then (root_then staged turn.query.selector) (row_of turn) ≡ turn.new

  -- what is known once all had
  pub record AreDone (rows : KeptAt) (fresh : List ℕ) (changes : List Change) (staged : List StagedRoot) (turns : List Turn) (rows_then : KeptAt) (fresh_then : List ℕ) : Type 0 where
    pub extends : Extends rows fresh rows_then fresh_then
    pub each : (turn : Turn) → Has turns turn → IsDone staged rows_then turn
    pub of_query : (turn : Turn) → Has turns turn → (change : Change) × Has changes change × (change.query ≡ turn.query)
    pub covers : (change : Change) → Has changes change → (d : ℕ) → d < length change.query.classes
        → (turn : Turn) × Has turns turn × (turn.query.selector ≡ change.query.selector) × (row_of turn ≡ prefix_of d change.query)
    pub order : AreOrdered turns
    pub vacant : (turn : Turn) (k : ℕ) → Has turns turn → turn.new ≡ Some k → rows k ≡ None
    pub apart : (turn other : Turn) (k : ℕ) → Has turns turn → Has turns other → turn.new ≡ Some k → other.new ≡ Some k
        → (turn.query.selector ≡ other.query.selector) × (row_of turn ≡ row_of other)
    pub among : (turn : Turn) (k : ℕ) → Has turns turn → turn.new ≡ Some k → Contains fresh_then k
    pub at : (s : ℕ) (change : Change) → Has changes change → change.query.selector ≡ s → (p : List ℕ) → IsAt rows_then (key_along rows_then (root_then staged s) p) next s p
    pub others : (s : ℕ) (change : Change) → Has changes change → change.query.selector ≡ s → (p : List ℕ) → length p ≤ 4
        → ((turn : Turn) → Has turns turn → turn.query.selector ≡ s → row_of turn ≢ p) → key_along rows_then (root_then staged s) p ≡ key_along rows0 (get_or roots s None) p
    pub staged_of : (root : StagedRoot) → Has staged root → (change : Change) × Has changes change × (change.query.selector ≡ root.selector)

  module _ (low : ℕ) (rows : KeptAt) (fresh : List ℕ) (changes : List Change) (given : AreGiven low rows changes) (root : StagedRoot) (own : List Turn) (between : KeptAt) (fresh_between : List ℕ)
      (first : IsFirstSelector changes root.selector)
      (levels : AreLevels (get_or roots root.selector None) 4 rows fresh (take (run_of root.selector changes) changes) [] own between fresh_between root.key)
      (extends : Extends rows fresh between fresh_between) where
    abbrev s : ℕ
    s = root.selector

    abbrev count : ℕ
    count = run_of root.selector changes

    least : (change : Change) → Has changes change → s ≤ change.query.selector
    least = least_first s changes first given.up

    in_range : s < 4096
    in_range = let found = first_of_run s changes first in let below = given.range found.0 found.1 in subst (λ n. n < 4096) found.2 below

    above_low : low ≤ s
    above_low = let found = first_of_run s changes first in let above = given.above found.0 found.1 in subst (λ n. low ≤ n) found.2 above

    own_is : (change : Change) → Has (take count changes) change → change.query.selector ≡ s
    own_is change has = run_own s changes change has

    later_is : (change : Change) → Has (drop count changes) change → s < change.query.selector
    later_is change has = run_after s changes given.up least change has

    own_given : IsGiven held next tabled tabled_next s rows0 (get_or roots s None) (old s in_range) 4 rows (take count changes) []
    own_given = record {
      kept = given.kept;
      few = λ change has. given.few change (of_take count changes change has);
      of_selector = own_is;
      answers = λ change has. given.answers change (of_take count changes change has);
      sorted = sorted_own s (take count changes) (in_turn_take count changes given.up) own_is;
      led_long = λ turn has. absurd has;
      led_selector = λ turn has. absurd has;
      led_at = λ turn has. absurd has;
      led_up = tt;
      below = λ p long none class rest. given.unchanged s (p ++ (class ∷ rest)) above_low (λ change has same. (
          let few = given.few change has in
          let whole : length change.query.classes ≡ length (p ++ (class ∷ rest)) = ap (λ (q : Query). length q.classes) same in
          let more = length-append p (class ∷ rest) in omega (arith, few, whole, more, long)));
      unchanged = λ classes short none. given.unchanged s classes above_low (λ change has same. elim (in_parts count changes change has) [
        | inl mine ↦ none change mine (ap (λ (q : Query). q.classes) same)
        | inr later ↦ (let more = later_is change later in let e : change.query.selector ≡ s = ap (λ (q : Query). q.selector) same in omega (arith, more, e))
      ]);
    }

    over : AreOver held next tabled tabled_next s rows0 (get_or roots s None) (old s in_range) 4 rows fresh (take count changes) [] own between fresh_between root.key
    over = selector_over held next tabled tabled_next s rows0 (get_or roots s None) (old s in_range) 4 rows fresh (take count changes) [] own between fresh_between root.key own_given levels

    pub rest_given : AreGiven (suc s) between (drop count changes)
    rest_given = record {
      kept = λ k some. extends.kept k (ap is_some (given.kept k some) ∙ some) ∙ given.kept k some;
      up = in_turn_drop count changes given.up;
      above = λ change has. (let more = later_is change has in omega (arith, more));
      range = λ change has. given.range change (of_drop count changes change has);
      few = λ change has. given.few change (of_drop count changes change has);
      answers = λ change has. given.answers change (of_drop count changes change has);
      unchanged = λ t classes above none. given.unchanged t classes (let a = above_low in omega (arith, above, a)) (λ change has same. elim (in_parts count changes change has) [
        | inl mine ↦ (let e : change.query.selector ≡ t = ap (λ (q : Query). q.selector) same in let is = own_is change mine in omega (arith, above, e, is))
        | inr later ↦ none change later same
      ]);
    }

    -- every row of the selector
    at_between : (p : List ℕ) → IsAt between (key_along between root.key p) next s p
    at_between p = at_all between root.key next s tabled_next over.at (length p) p refl

    own_selector : (turn : Turn) → Has own turn → turn.query.selector ≡ s
    own_selector turn has = (over.each turn has).selector_is

    own_stands : (turn : Turn) (k : ℕ) → Has own turn → turn.new ≡ Some k → is_some (between k) ≡ true
    own_stands turn k has e = ((at_between (row_of turn)).there k ((over.each turn has).new_is ∙ e)).1

    module _ (staged : List StagedRoot) (more : List Turn) (rows_then : KeptAt) (fresh_then : List ℕ) (rest : AreDone between fresh_between (drop count changes) staged more rows_then fresh_then) where
      key_then : (p : List ℕ) → key_along rows_then root.key p ≡ key_along between root.key p
      key_then p = key_kept next next tabled_next tabled_next s between root.key at_between rows_then rest.extends.kept p []

      more_selector : (turn : Turn) → Has more turn → s < turn.query.selector
      more_selector turn has = let found = rest.of_query turn has in let more = later_is found.0 found.1 in subst (λ (q : Query). s < q.selector) found.2 more

      root_now : root_then (root ∷ staged) s ≡ root.key
      root_now = root_other staged s (if root.selector == s then root.key else get_or roots s None)
          (λ r has same. (let found = rest.staged_of r has in let later = later_is found.0 found.1 in let e = found.2 in omega (arith, later, e, same)))
          ∙ if_true (root.selector == s) root.key (get_or roots s None) (eq-eqb s s refl)

      root_later : (t : ℕ) → s < t → root_then (root ∷ staged) t ≡ root_then staged t
      root_later t less = ap (root_in staged t) (if_false (root.selector == t) root.key (get_or roots t None)
          (by_cases (root.selector == t) (λ same. absurd (let e : s ≡ t = eqb-true root.selector t same in omega (arith, less, e))) (λ f. f)))

      own_key : (p : List ℕ) → key_along rows_then (root_then (root ∷ staged) s) p ≡ key_along between root.key p
      own_key p = ap (λ (k : Option ℕ). key_along rows_then k p) root_now ∙ key_then p

      pub join_selector : AreDone rows fresh changes (root ∷ staged) (own ++ more) rows_then fresh_then
      join_selector = record {
        extends = extends_then rows between rows_then fresh fresh_between fresh_then extends rest.extends;
        each = λ turn has. elim (in_both own more turn has) [
          | inl mine ↦ (let is = over.each turn mine in record {
            long = is.long;
            old_is = is.old_is ∙ ap (λ n. key_along rows0 (get_or roots n None) (row_of turn)) (sym is.selector_is);
            new_is = ap (λ n. key_along rows_then (root_then (root ∷ staged) n) (row_of turn)) is.selector_is ∙ own_key (row_of turn) ∙ is.new_is;
          })
          | inr later ↦ (let is = rest.each turn later in record {
            long = is.long;
            old_is = is.old_is;
            new_is = ap (λ (k : Option ℕ). key_along rows_then k (row_of turn)) (root_later turn.query.selector (more_selector turn later)) ∙ is.new_is;
          })
        ];
        of_query = λ turn has. elim (in_both own more turn has) [
          | inl mine ↦ elim (over.of_query turn mine) [
            | inl found ↦ (found.0, of_take count changes found.0 found.1, found.2)
            | inr none ↦ absurd none.1
          ]
          | inr later ↦ (let found = rest.of_query turn later in (found.0, of_drop count changes found.0 found.1, found.2))
        ];
        covers = λ change has d short. elim (in_parts count changes change has) [
          | inl mine ↦ (let found = over.covers change mine d short in (found.0, of_first own more found.0 found.1, own_selector found.0 found.1 ∙ sym (own_is change mine), found.2))
          | inr later ↦ (let found = rest.covers change later d short in (found.0, of_second own more found.0 found.1, found.2, found.3))
        ];
        order = ordered_both own more over.order rest.order (λ turn other has has_later. or_left (nat_lt turn.query.selector other.query.selector) _
            (lt_test turn.query.selector other.query.selector (let mine = own_selector turn has in let later = more_selector other has_later in omega (arith, mine, later))));
        vacant = λ turn k has e. elim (in_both own more turn has) [
          | inl mine ↦ over.vacant turn k mine e
          | inr later ↦ no_row_before (rows k) (between k) (extends.kept k) (rest.vacant turn k later e)
        ];
        apart = λ one other k has_one has_other e_one e_other. elim (in_both own more one has_one) [
          | inl mine ↦ elim (in_both own more other has_other) [
            | inl also ↦ (own_selector one mine ∙ sym (own_selector other also), over.apart one other k mine also e_one e_other)
            | inr later ↦ absurd (true≢false (sym (own_stands one k mine e_one) ∙ ap is_some (rest.vacant other k later e_other)))
          ]
          | inr later ↦ elim (in_both own more other has_other) [
            | inl also ↦ absurd (true≢false (sym (own_stands other k also e_other) ∙ ap is_some (rest.vacant one k later e_one)))
            | inr also ↦ rest.apart one other k later also e_one e_other
          ]
        ];
        among = λ turn k has e. elim (in_both own more turn has) [
          | inl mine ↦ rest.extends.stays k (over.among turn k mine e)
          | inr later ↦ rest.among turn k later e
        ];
        at = λ t change has is p. elim (in_parts count changes change has) [
          | inl mine ↦ subst (λ n. IsAt rows_then (key_along rows_then (root_then (root ∷ staged) n) p) next n p) (sym (own_is change mine) ∙ is)
              (subst (λ (k : Option ℕ). IsAt rows_then k next s p) (sym (own_key p)) (at_still between rows_then (key_along between root.key p) next s p rest.extends.kept (at_between p)))
          | inr later ↦ subst (λ (k : Option ℕ). IsAt rows_then (key_along rows_then k p) next t p) (sym (root_later t (subst (λ n. s < n) is (later_is change later)))) (rest.at t change later is p)
        ];
        others = λ t change has is p short none. elim (in_parts count changes change has) [
          | inl mine ↦ (let same : s ≡ t = sym (own_is change mine) ∙ is in
              subst (λ n. key_along rows_then (root_then (root ∷ staged) n) p ≡ key_along rows0 (get_or roots n None) p) same
              (own_key p ∙ over.others p short (λ turn own_has. none turn (of_first own more turn own_has) (own_selector turn own_has ∙ same)) (λ turn never. absurd never)))
          | inr later ↦ ap (λ (k : Option ℕ). key_along rows_then k p) (root_later t (subst (λ n. s < n) is (later_is change later)))
              ∙ rest.others t change later is p short (λ turn more_has. none turn (of_second own more turn more_has))
        ];
        staged_of = λ r has. elim has [
          | inl is ↦ (let found = first_of_run s changes first in (found.0, found.1, found.2 ∙ ap (λ (x : StagedRoot). x.selector) is))
          | inr later ↦ (let found = rest.staged_of r later in (found.0, of_drop count changes found.0 found.1, found.2))
        ];
      }

  pub selectors_done : (low : ℕ) (rows : KeptAt) (fresh : List ℕ) (changes : List Change) (staged : List StagedRoot) (turns : List Turn) (rows_then : KeptAt) (fresh_then : List ℕ)
      → AreGiven low rows changes → AreSelectors roots rows fresh changes staged turns rows_then fresh_then → AreDone rows fresh changes staged turns rows_then fresh_then
  selectors_done low rows fresh changes [] turns rows_then fresh_then given is = record {
    extends = subst (λ (r : KeptAt). Extends rows fresh r fresh_then) (sym is.2) (subst (λ (l : List ℕ). Extends rows fresh rows l) (sym is.3) (extends_none rows fresh));
    each = λ turn has. absurd (subst (λ (l : List Turn). Has l turn) is.1 has);
    of_query = λ turn has. absurd (subst (λ (l : List Turn). Has l turn) is.1 has);
    covers = λ change has d short. absurd (subst (λ (l : List Change). Has l change) is.0 has);
    order = subst (λ (l : List Turn). AreOrdered l) (sym is.1) tt;
    vacant = λ turn k has e. absurd (subst (λ (l : List Turn). Has l turn) is.1 has);
    apart = λ turn other k has has_other e e_other. absurd (subst (λ (l : List Turn). Has l turn) is.1 has);
    among = λ turn k has e. absurd (subst (λ (l : List Turn). Has l turn) is.1 has);
    at = λ s change has e p. absurd (subst (λ (l : List Change). Has l change) is.0 has);
    others = λ s change has e p short none. absurd (subst (λ (l : List Change). Has l change) is.0 has);
    staged_of = λ root has. absurd has;
  }
  selectors_done low rows fresh changes (root ∷ staged) turns rows_then fresh_then given is =
      subst (λ (l : List Turn). AreDone rows fresh changes (root ∷ staged) l rows_then fresh_then) (sym is.8)
      (join_selector low rows fresh changes given root is.0 is.2 is.3 is.4 is.5 is.6 staged is.1 rows_then fresh_then
      (selectors_done (suc root.selector) is.2 is.3 (drop (run_of root.selector changes) changes) staged is.1 rows_then fresh_then
      (rest_given low rows fresh changes given root is.0 is.2 is.3 is.4 is.5 is.6) is.7))
