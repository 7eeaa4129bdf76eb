-- The rows of a selector, level by level: after all turns each row stands under its key.
use Rattle.std.proofs.Common.{◌≡◌, ◌≢◌, ◌==◌, ℕ, zero, suc, ◌<◌, ◌≤◌, true, ◌&&◌, ◌||◌, List, [], ◌∷◌, ◌++◌, length, take, drop, get_or, Option, Some, None, is_some, Contains, ◌⊎◌, inl, inr, refl, sym, ap, subst, ◌∙◌, arith}
use Rattle.std.specs.Prelude.{nat_lt}
use Rattle.std.proofs.lemmas.Bool.{and_from, or_left, or_right, eq-eqb, true≢false}
use Rattle.std.proofs.lemmas.List.{append_assoc, take_all, length-append}
use Rattle.dt_scratch.specs.Query.{arity_of_query}
use Rattle.dt_scratch.specs.declared.reply.Change.{Change}
use Rattle.dt_cells.specs.Held.{Held}
use Rattle.dt_placing.specs.PlacingLaws.{lt_test}
use Rattle.dt_mrd.specs.declared.kept_row.KeptRow.{KeptRow}
use Rattle.dt_mrd.specs.declared.turn.Turn.{Turn}
use Rattle.dt_mrd.specs.Rows.{sent, is_below, comes_before}
use Rattle.dt_mrd.specs.Placing.{IsTabled}
use Rattle.dt_mrd.specs.Kept.{row_at, next_in, key_of_next, key_along}
use Rattle.dt_mrd.specs.Levels.{KeptAt, Extends, prefix_of, IsLevel, IsBeforeArity, StartsAt, first_key, AreLevels}
use Rattle.dt_mrd.proofs.LevelLists.{Has, all_has, in_parts, in_both, of_first, of_second, of_take, of_drop}
use Rattle.dt_mrd.proofs.LevelOrder.{Ascends, length_prefix, take_next}
use Rattle.dt_mrd.proofs.LevelPuts.{change_query, turn_query}
use Rattle.dt_mrd.proofs.LevelCell.{IsSameBelow}
use Rattle.dt_mrd.proofs.LevelRow.{IsAt, still_at, at_still}
use Rattle.dt_mrd.proofs.LevelOver.{key_snoc, IsOver, over_still, IsLevelGiven, IsLevelOver, level_over, prefix_parts}
use Rattle.dt_mrd.proofs.LevelKeys.{of_prefix, keyed, keyed_one, keyed_none, last_class, at_next}
use Rattle.dt_mrd.proofs.LevelSteps.{extends_none, extends_then, no_row_before}

-- ---- changes by arity and classes

-- one change comes before another of its selector
abbrev pub IsEarlier : Change → Change → Type 0
IsEarlier change other =
    (length change.query.classes < length other.query.classes)
    ⊎ ((length change.query.classes ≡ length other.query.classes) × (is_below change.query.classes other.query.classes ≡ true))

abbrev pub AreSorted : List Change → Type 0
AreSorted [] = Unit {0}
AreSorted (first ∷ changes) = ((change : Change) → Has changes change → IsEarlier first change) × AreSorted changes

sorted_take : (count : ℕ) (changes : List Change) → AreSorted changes → AreSorted (take count changes)
sorted_take zero changes sorted = tt
sorted_take (suc count) [] sorted = tt
sorted_take (suc count) (first ∷ changes) sorted = (λ change has. sorted.0 change (of_take count changes change has), sorted_take count changes sorted.1)

sorted_drop : (count : ℕ) (changes : List Change) → AreSorted changes → AreSorted (drop count changes)
sorted_drop zero changes sorted = sorted
sorted_drop (suc count) [] sorted = tt
sorted_drop (suc count) (first ∷ changes) sorted = sorted_drop count changes sorted.1

not_shorter : (change other : Change) → IsEarlier change other → length change.query.classes ≤ length other.query.classes
not_shorter change other earlier = elim earlier [ inl less ↦ omega (arith, less) | inr same ↦ (let e = same.0 in omega (arith, e)) ]

-- from the first of the greatest arity on all are of it
all_of_arity : (arity : ℕ) (changes : List Change) → AreSorted changes → ((change : Change) → Has changes change → length change.query.classes ≤ arity) → StartsAt arity changes
    → (change : Change) → Has changes change → length change.query.classes ≡ arity
all_of_arity arity [] sorted few starts change has = absurd has
all_of_arity arity (first ∷ changes) sorted few starts change has = elim has [
  | inl is ↦ subst (λ (c : Change). length c.query.classes ≡ arity) is starts
  | inr later ↦ (let least = not_shorter first change (sorted.0 change later) in let most = few change (inr later) in
      let first_is : length first.query.classes ≡ arity = starts in omega (arith, least, most, first_is))
]

-- those of one arity ascend
ascends_sorted : (arity : ℕ) (changes : List Change) → AreSorted changes → ((change : Change) → Has changes change → length change.query.classes ≡ arity) → Ascends change_query arity changes
ascends_sorted arity [] sorted long = tt
ascends_sorted arity (first ∷ changes) sorted long = (
  λ change has. (
      let one = long first (inl refl) in let other = long change (inr has) in
      let below : is_below first.query.classes change.query.classes ≡ true = elim (sorted.0 change has) [ inl less ↦ absurd (omega (arith, less, one, other)) | inr same ↦ same.1 ] in
      subst (λ (l : List ℕ). is_below l (take arity change.query.classes) ≡ true) (sym (take_all arity first.query.classes (omega (arith, one))))
      (subst (λ (l : List ℕ). is_below first.query.classes l ≡ true) (sym (take_all arity change.query.classes (omega (arith, other)))) below)),
  ascends_sorted arity changes sorted.1 (λ change has. long change (inr has)),
)

-- ---- the order of turns

abbrev pub row_of : Turn → List ℕ
row_of turn = take turn.depth turn.query.classes

abbrev pub AreOrdered : List Turn → Type 0
AreOrdered [] = Unit {0}
AreOrdered (first ∷ turns) = ((turn : Turn) → Has turns turn → comes_before (first.query.selector, row_of first) (turn.query.selector, row_of turn) ≡ true) × AreOrdered turns

pub ordered_both : (turns more : List Turn) → AreOrdered turns → AreOrdered more
    → ((turn other : Turn) → Has turns turn → Has more other → comes_before (turn.query.selector, row_of turn) (other.query.selector, row_of other) ≡ true) → AreOrdered (turns ++ more)
ordered_both [] more one other between = other
ordered_both (first ∷ turns) more one other between = (
  λ turn has. elim (in_both turns more turn has) [
    | inl a ↦ one.0 turn a
    | inr b ↦ between first turn (inl refl) b
  ],
  ordered_both turns more one.1 other (λ turn later has has_later. between turn later (inr has) has_later),
)

longer_first : (s t : ℕ) (p q : List ℕ) → s ≡ t → length q < length p → comes_before (s, p) (t, q) ≡ true
longer_first s t p q same longer = or_right (nat_lt s t) ((s == t) && (nat_lt (length q) (length p) || ((length q == length p) && is_below p q)))
    (and_from (s == t) (nat_lt (length q) (length p) || ((length q == length p) && is_below p q)) (eq-eqb s t same)
    (or_left (nat_lt (length q) (length p)) ((length q == length p) && is_below p q) (lt_test (length q) (length p) longer)))

below_first : (s t : ℕ) (p q : List ℕ) → s ≡ t → length q ≡ length p → is_below p q ≡ true → comes_before (s, p) (t, q) ≡ true
below_first s t p q same long below = or_right (nat_lt s t) ((s == t) && (nat_lt (length q) (length p) || ((length q == length p) && is_below p q)))
    (and_from (s == t) (nat_lt (length q) (length p) || ((length q == length p) && is_below p q)) (eq-eqb s t same)
    (or_right (nat_lt (length q) (length p)) ((length q == length p) && is_below p q)
    (and_from (length q == length p) (is_below p q) (eq-eqb (length q) (length p) long) below)))

-- a shorter prefix of a prefix
take_take : (m n : ℕ) (l : List ℕ) → m ≤ n → take m (take n l) ≡ take m l
take_take zero n l within = refl
take_take (suc m) zero l within = absurd (omega (arith, within))
take_take (suc m) (suc n) [] within = refl
take_take (suc m) (suc n) (x ∷ xs) within = ap (λ (l : List ℕ). x ∷ l) (take_take m n xs (omega (arith, within)))

shorter_same : (m n : ℕ) (l k : List ℕ) → m ≤ n → take n l ≡ take n k → take m l ≡ take m k
shorter_same m n l k within e = sym (take_take m n l within) ∙ ap (take m) e ∙ take_take m n k within

nil_of : (p : List ℕ) → length p ≤ 0 → p ≡ []
nil_of [] within = refl
nil_of (x ∷ xs) within = absurd (omega (arith, within))

module _ (held next : Held) (tabled : IsTabled held) (tabled_next : IsTabled next) (s : ℕ) (rows0 : KeptAt) (root : Option ℕ)
    (old : (p : List ℕ) → IsAt rows0 (key_along rows0 root p) held s p) where
  -- what is known where the rows of a length, 'led', and those of greater lengths had their turns
  pub record IsGiven (most : ℕ) (rows : KeptAt) (changes : List Change) (led : List Turn) : Type 0 where
    pub kept : (k : ℕ) → is_some (rows0 k) ≡ true → rows k ≡ rows0 k
    pub few : (change : Change) → Has changes change → length change.query.classes ≤ most
    pub of_selector : (change : Change) → Has changes change → change.query.selector ≡ s
    pub answers : (change : Change) → Has changes change → next change.query ≡ change.answer
    pub sorted : AreSorted changes
    pub led_long : (turn : Turn) → Has led turn → most < length turn.query.classes
    pub led_selector : (turn : Turn) → Has led turn → turn.query.selector ≡ s
    pub led_at : (turn : Turn) → Has led turn → IsAt rows turn.new next s (prefix_of most turn.query)
    pub led_up : Ascends turn_query most led
    pub below : (p : List ℕ) → length p ≡ most → ((turn : Turn) → Has led turn → prefix_of most turn.query ≢ p) → IsSameBelow held next s p
    pub unchanged : (classes : List ℕ) → length classes ≤ most → ((change : Change) → Has changes change → change.query.classes ≢ classes) → next (sent s classes) ≡ held (sent s classes)

  -- what is known of a turn
  pub record IsTurned (most : ℕ) (rows_then : KeptAt) (key : Option ℕ) (turn : Turn) : Type 0 where
    pub selector_is : turn.query.selector ≡ s
    pub short : turn.depth < most
    pub long : turn.depth < length turn.query.classes
    pub old_is : turn.old ≡ key_along rows0 root (row_of turn)
    pub new_is : key_along rows_then key (row_of turn) ≡ turn.new

  -- what is known once those of shorter lengths had theirs
  pub record AreOver (most : ℕ) (rows : KeptAt) (fresh : List ℕ) (changes : List Change) (led turns : List Turn) (rows_then : KeptAt) (fresh_then : List ℕ) (key : Option ℕ) : Type 0 where
    pub extends : Extends rows fresh rows_then fresh_then
    pub each : (turn : Turn) → Has turns turn → IsTurned most rows_then key turn
    pub led_new : (turn : Turn) → Has led turn → key_along rows_then key (prefix_of most turn.query) ≡ turn.new
    pub others : (p : List ℕ) → length p ≤ most → ((turn : Turn) → Has turns turn → row_of turn ≢ p) → ((turn : Turn) → Has led turn → prefix_of most turn.query ≢ p)
        → key_along rows_then key p ≡ key_along rows0 root p
    pub at : (p : List ℕ) → length p ≤ most → IsAt rows_then (key_along rows_then key p) next s p
    pub order : AreOrdered turns
    pub covers : (change : Change) → Has changes change → (d : ℕ) → d < length change.query.classes → (turn : Turn) × Has turns turn × (row_of turn ≡ prefix_of d change.query)
    pub covers_led : (other : Turn) → Has led other → (d : ℕ) → d < most → (turn : Turn) × Has turns turn × (row_of turn ≡ prefix_of d other.query)
    pub of_query : (turn : Turn) → Has turns turn
        → ((change : Change) × Has changes change × (change.query ≡ turn.query)) ⊎ ((other : Turn) × Has led other × (other.query ≡ turn.query))
    pub vacant : (turn : Turn) (k : ℕ) → Has turns turn → turn.new ≡ Some k → rows k ≡ None
    pub apart : (turn other : Turn) (k : ℕ) → Has turns turn → Has turns other → turn.new ≡ Some k → other.new ≡ Some k → row_of turn ≡ row_of other
    pub among : (turn : Turn) (k : ℕ) → Has turns turn → turn.new ≡ Some k → Contains fresh_then k

  -- ---- no shorter rows

  only_one : (led : List Turn) (turn : Turn) → Ascends turn_query 0 led → Has led turn → first_key root led ≡ turn.new
  only_one [] turn up has = absurd has
  only_one (first ∷ led) turn up has = elim has [
    | inl is ↦ ap (λ (t : Turn). t.new) is
    | inr later ↦ absurd (true≢false (sym (up.0 turn later)))
  ]

  none_first : (led : List Turn) → ((turn : Turn) → Has led turn → ⊥) → first_key root led ≡ root
  none_first [] none = refl
  none_first (first ∷ led) none = absurd (none first (inl refl))

  pub ends : (rows : KeptAt) (fresh : List ℕ) (changes : List Change) (led : List Turn) → IsGiven 0 rows changes led → AreOver 0 rows fresh changes led [] rows fresh (first_key root led)
  ends rows fresh changes led given = record {
    extends = extends_none rows fresh;
    each = λ turn has. absurd has;
    led_new = λ turn has. only_one led turn given.led_up has;
    others = λ p short none none_led. (let is = nil_of p short in
        subst (λ (l : List ℕ). key_along rows (first_key root led) l ≡ key_along rows0 root l) (sym is) (none_first led (λ turn has. none_led turn has (sym is))));
    at = λ p short. subst (λ (l : List ℕ). IsAt rows (key_along rows (first_key root led) l) next s l) (sym (nil_of p short)) (elim (of_prefix 0 led []) [
      | inl found ↦ subst (λ (k : Option ℕ). IsAt rows k next s []) (sym (only_one led found.0 given.led_up found.1)) (given.led_at found.0 found.1)
      | inr none ↦ subst (λ (k : Option ℕ). IsAt rows k next s []) (sym (none_first led (λ turn has. none turn has refl)))
          (at_next rows root held next s [] (given.below [] refl none) (at_still rows0 rows root held s [] given.kept (old [])))
    ]);
    order = tt;
    covers = λ change has d short. (let few = given.few change has in absurd (omega (arith, few, short)));
    covers_led = λ other has d short. absurd (omega (arith, short));
    of_query = λ turn has. absurd has;
    vacant = λ turn k has e. absurd has;
    apart = λ turn other k has has_other e e_other. absurd has;
    among = λ turn k has e. absurd has;
  }

  -- ---- one length after those that are greater

  ordered_of : (d : ℕ) (level : List Turn) → Ascends turn_query d level
      → ((turn : Turn) → Has level turn → (turn.query.selector ≡ s) × (turn.depth ≡ d) × (d < length turn.query.classes)) → AreOrdered level
  ordered_of d [] up shape = tt
  ordered_of d (first ∷ level) up shape = (
    λ turn has. (
        let one = shape first (inl refl) in let other = shape turn (inr has) in
        let first_is : row_of first ≡ prefix_of d first.query = ap (λ n. take n first.query.classes) one.1 in
        let turn_is : row_of turn ≡ prefix_of d turn.query = ap (λ n. take n turn.query.classes) other.1 in
        subst (λ (l : List ℕ). comes_before (first.query.selector, l) (turn.query.selector, row_of turn) ≡ true) (sym first_is)
        (subst (λ (l : List ℕ). comes_before (first.query.selector, prefix_of d first.query) (turn.query.selector, l) ≡ true) (sym turn_is)
        (below_first first.query.selector turn.query.selector (prefix_of d first.query) (prefix_of d turn.query) (one.0 ∙ sym other.0)
        (length_prefix d turn.query.classes other.2 ∙ sym (length_prefix d first.query.classes one.2)) (up.0 turn has)))),
    ordered_of d level up.1 (λ turn has. shape turn (inr has)),
  )

  one_of : (n d : ℕ) → n ≤ suc d → (n ≤ d) ⊎ (n ≡ suc d)
  one_of zero d within = inl (omega arith)
  one_of (suc n) zero within = inr (omega (arith, within))
  one_of (suc n) (suc d) within = elim (one_of n d (omega (arith, within))) [ inl a ↦ inl (omega (arith, a)) | inr b ↦ inr (omega (arith, b)) ]

  module _ (d : ℕ) (rows : KeptAt) (fresh : List ℕ) (changes : List Change) (led : List Turn) (given : IsGiven (suc d) rows changes led)
      (count : ℕ) (before : IsBeforeArity changes (suc d) count) (level : List Turn) (between : KeptAt) (fresh_between : List ℕ)
      (laid : IsLevel root d rows fresh (drop count changes) led level between fresh_between) where
    abbrev target : List ℕ → Option ℕ
    target q = keyed (suc d) led q (key_along rows0 root q)

    own_long : (change : Change) → Has (drop count changes) change → length change.query.classes ≡ suc d
    own_long = all_of_arity (suc d) (drop count changes) (sorted_drop count changes given.sorted) (λ change has. given.few change (of_drop count changes change has)) before.starts

    fewer : (change : Change) → Has (take count changes) change → length change.query.classes ≤ d
    fewer change has =
        let differs : length change.query.classes ≢ suc d = all_has (λ (c : Change). arity_of_query c.query ≢ suc d) (take count changes) before.others change has in
        let few = given.few change (of_take count changes change has) in
        elim (one_of (length change.query.classes) d few) [ inl a ↦ a | inr b ↦ absurd (differs b) ]

    length_next : (p : List ℕ) (class : ℕ) → length p ≡ d → length (p ++ (class ∷ [])) ≡ suc d
    length_next p class long = let e = length-append p (class ∷ []) in omega (arith, e, long)

    -- a change of a query that ends after a row is one of the level's
    own_change : (p : List ℕ) (class : ℕ) → length p ≡ d → (change : Change) → Has changes change → change.query.classes ≡ p ++ (class ∷ []) → Has (drop count changes) change
    own_change p class long change has e = elim (in_parts count changes change has) [
      | inl shorter ↦ absurd (let few = fewer change shorter in let whole = ap length e ∙ length_next p class long in omega (arith, few, whole))
      | inr own ↦ own
    ]

    level_given : IsLevelGiven held next tabled tabled_next s rows0 root old target d rows [] (drop count changes) led
    level_given = record {
      kept = given.kept;
      of_selector = λ change has. given.of_selector change (of_drop count changes change has);
      long = own_long;
      answers = λ change has. given.answers change (of_drop count changes change has);
      up = ascends_sorted (suc d) (drop count changes) (sorted_drop count changes given.sorted) own_long;
      led_long = λ turn has. (let long = given.led_long turn has in omega (arith, long));
      led_selector = given.led_selector;
      led_at = given.led_at;
      led_target = λ turn has. keyed_one (suc d) led (key_along rows0 root (prefix_of (suc d) turn.query)) given.led_up turn has;
      led_up = given.led_up;
      others = λ p class long waits none. given.unchanged (p ++ (class ∷ [])) (let whole = length_next p class long in omega (arith, whole))
          (λ change has same. (let own = own_change p class long change has same in let whole = own_long change own in
          none change own (take_all (suc d) change.query.classes (omega (arith, whole)) ∙ same)));
      others_led = λ p class long waits none. (given.below (p ++ (class ∷ [])) (length_next p class long) none, keyed_none (suc d) led (p ++ (class ∷ [])) (key_along rows0 root (p ++ (class ∷ []))) none);
      above = λ p has change own. absurd has;
      above_led = λ p has turn own. absurd has;
    }

    over : IsLevelOver held next tabled tabled_next s rows0 root old target d rows fresh [] (drop count changes) led level between fresh_between
    over = level_over held next tabled tabled_next s rows0 root old target d rows fresh [] (drop count changes) led level between fresh_between level_given laid

    each_of : (turn : Turn) → Has level turn → IsOver held next tabled tabled_next s rows0 root old target d between turn
    each_of turn has = over.each turn has

    level_below : (p : List ℕ) → length p ≡ d → ((turn : Turn) → Has level turn → prefix_of d turn.query ≢ p) → IsSameBelow held next s p
    level_below p long none class [] = given.unchanged (p ++ (class ∷ [])) (let whole = length_next p class long in omega (arith, whole))
        (λ change has same. (let own = own_change p class long change has same in let found = over.covers change own in let whole = own_long change own in
        let parts = prefix_parts d change.query.classes p class (omega (arith, whole)) long (take_all (suc d) change.query.classes (omega (arith, whole)) ∙ same) in
        none found.0 found.1 (found.2 ∙ parts.0)))
    level_below p long none class (other ∷ rest) =
        ap (λ (l : List ℕ). next (sent s l)) (sym (append_assoc p (class ∷ []) (other ∷ rest)))
        ∙ given.below (p ++ (class ∷ [])) (length_next p class long) (λ turn has same. (let found = over.covers_led turn has in let more = given.led_long turn has in
        let parts = prefix_parts d turn.query.classes p class (omega (arith, more)) long same in
        none found.0 found.1 (found.2 ∙ parts.0))) other rest
        ∙ ap (λ (l : List ℕ). held (sent s l)) (append_assoc p (class ∷ []) (other ∷ rest))

    pub between_given : IsGiven d between (take count changes) level
    between_given = record {
      kept = λ k some. over.extends.kept k (ap is_some (given.kept k some) ∙ some) ∙ given.kept k some;
      few = fewer;
      of_selector = λ change has. given.of_selector change (of_take count changes change has);
      answers = λ change has. given.answers change (of_take count changes change has);
      sorted = sorted_take count changes given.sorted;
      led_long = λ turn has. (each_of turn has).long;
      led_selector = λ turn has. (each_of turn has).selector_is;
      led_at = λ turn has. (each_of turn has).at;
      led_up = over.up;
      below = level_below;
      unchanged = λ classes short none. given.unchanged classes (omega (arith, short)) (λ change has same. elim (in_parts count changes change has) [
        | inl shorter ↦ none change shorter same
        | inr own ↦ (let whole = own_long change own in let long = ap length same in omega (arith, whole, long, short))
      ]);
    }

    row_is : (turn : Turn) → Has level turn → row_of turn ≡ prefix_of d turn.query
    row_is turn has = ap (λ n. take n turn.query.classes) (each_of turn has).depth_is

    row_long : (turn : Turn) → Has level turn → length (row_of turn) ≡ d
    row_long turn has = ap length (row_is turn has) ∙ length_prefix d turn.query.classes (each_of turn has).long

    module _ (more : List Turn) (rows_then : KeptAt) (fresh_then : List ℕ) (key : Option ℕ) (rest : AreOver d between fresh_between (take count changes) level more rows_then fresh_then key) where
      kept_then : (k : ℕ) → is_some (rows0 k) ≡ true → rows_then k ≡ rows0 k
      kept_then k some =
          let now = between_given.kept k some in
          rest.extends.kept k (ap is_some now ∙ some) ∙ now

      more_long : (turn : Turn) → Has more turn → length (row_of turn) < d
      more_long turn has = let is = rest.each turn has in let long = length_prefix turn.depth turn.query.classes is.long in let short = is.short in omega (arith, long, short)

      key_under : (turn : Turn) → Has level turn → (p : List ℕ) → prefix_of d turn.query ≡ p → (class : ℕ) → key_along rows_then key (p ++ (class ∷ [])) ≡ target (p ++ (class ∷ []))
      key_under turn has p e class =
          key_snoc rows_then key p class
          ∙ ap (λ (k : Option ℕ). key_of_next (next_in (row_at rows_then k) class)) (ap (λ (l : List ℕ). key_along rows_then key l) (sym e) ∙ rest.led_new turn has)
          ∙ (over_still held next tabled tabled_next s rows0 root old target d between rows_then turn rest.extends.kept (each_of turn has)).link class
          ∙ ap (λ (l : List ℕ). target (l ++ (class ∷ []))) e

      key_beside : (p : List ℕ) → length p ≡ d → ((turn : Turn) → Has level turn → prefix_of d turn.query ≢ p) → (class : ℕ)
          → key_along rows_then key (p ++ (class ∷ [])) ≡ key_along rows0 root (p ++ (class ∷ []))
      key_beside p long none class =
          key_snoc rows_then key p class
          ∙ ap (λ (k : Option ℕ). key_of_next (next_in (row_at rows_then k) class))
          (rest.others p (omega (arith, long)) (λ turn has same. (let short = more_long turn has in let is = ap length same in omega (arith, short, is, long))) none)
          ∙ ap (λ (r : Option KeptRow). key_of_next (next_in r class)) (still_at rows0 rows_then (key_along rows0 root p) held s p kept_then (old p))
          ∙ sym (key_snoc rows0 root p class)

      led_new_then : (turn : Turn) → Has led turn → key_along rows_then key (prefix_of (suc d) turn.query) ≡ turn.new
      led_new_then turn has =
          let found = over.covers_led turn has in
          let long = given.led_long turn has in
          let is : prefix_of (suc d) turn.query ≡ prefix_of d turn.query ++ (get_or turn.query.classes d 0 ∷ []) = take_next d turn.query.classes (omega (arith, long)) in
          ap (λ (l : List ℕ). key_along rows_then key l) is
          ∙ key_under found.0 found.1 (prefix_of d turn.query) found.2 (get_or turn.query.classes d 0)
          ∙ ap target (sym is)
          ∙ keyed_one (suc d) led (key_along rows0 root (prefix_of (suc d) turn.query)) given.led_up turn has

      others_long : (p : List ℕ) → length p ≡ suc d → ((turn : Turn) → Has led turn → prefix_of (suc d) turn.query ≢ p) → key_along rows_then key p ≡ key_along rows0 root p
      others_long p long none =
          let is = last_class d p long in
          let short : length (take d p) ≡ d = length_prefix d p (omega (arith, long)) in
          subst (λ (l : List ℕ). key_along rows_then key l ≡ key_along rows0 root l) (sym is) (elim (of_prefix d level (take d p)) [
            | inl found ↦ key_under found.0 found.1 (take d p) found.2 (get_or p d 0)
                ∙ keyed_none (suc d) led (take d p ++ (get_or p d 0 ∷ [])) (key_along rows0 root (take d p ++ (get_or p d 0 ∷ []))) (λ turn has same. none turn has (same ∙ sym is))
            | inr none_level ↦ key_beside (take d p) short none_level (get_or p d 0)
          ])

      at_long : (p : List ℕ) → length p ≡ suc d → IsAt rows_then (key_along rows_then key p) next s p
      at_long p long = elim (of_prefix (suc d) led p) [
        | inl found ↦ subst (λ (l : List ℕ). IsAt rows_then (key_along rows_then key l) next s l) found.2
            (subst (λ (k : Option ℕ). IsAt rows_then k next s (prefix_of (suc d) found.0.query)) (sym (led_new_then found.0 found.1))
            (at_still rows rows_then found.0.new next s (prefix_of (suc d) found.0.query)
            (λ k some. (let now = over.extends.kept k some in rest.extends.kept k (ap is_some now ∙ some) ∙ now)) (given.led_at found.0 found.1)))
        | inr none ↦ subst (λ (k : Option ℕ). IsAt rows_then k next s p) (sym (others_long p long none))
            (at_next rows_then (key_along rows0 root p) held next s p (given.below p long none) (at_still rows0 rows_then (key_along rows0 root p) held s p kept_then (old p)))
      ]

      covers_below : (turn : Turn) → Has level turn → (l : List ℕ) → prefix_of d turn.query ≡ take d l → (n : ℕ) → n < suc d → (other : Turn) × Has (level ++ more) other × (row_of other ≡ take n l)
      covers_below turn has l e n short = elim (one_of (suc n) d (omega (arith, short))) [
        | inl less ↦ (let found = rest.covers_led turn has n (omega (arith, less)) in
            (found.0, of_second level more found.0 found.1, found.2 ∙ shorter_same n d turn.query.classes l (omega (arith, less)) e))
        | inr last ↦ (turn, of_first level more turn has, row_is turn has ∙ e ∙ ap (λ m. take m l) (omega (arith, last)))
      ]

      pub join : AreOver (suc d) rows fresh changes led (level ++ more) rows_then fresh_then key
      join = record {
        extends = extends_then rows between rows_then fresh fresh_between fresh_then over.extends rest.extends;
        each = λ turn has. elim (in_both level more turn has) [
          | inl own ↦ (let is = each_of turn own in let depth = is.depth_is in record {
            selector_is = is.selector_is;
            short = omega (arith, depth);
            long = subst (λ n. n < length turn.query.classes) (sym depth) is.long;
            old_is = is.old_is ∙ ap (λ (l : List ℕ). key_along rows0 root l) (sym (row_is turn own));
            new_is = ap (λ (l : List ℕ). key_along rows_then key l) (row_is turn own) ∙ rest.led_new turn own;
          })
          | inr later ↦ (let is = rest.each turn later in let short = is.short in record {
            selector_is = is.selector_is;
            short = omega (arith, short);
            long = is.long;
            old_is = is.old_is;
            new_is = is.new_is;
          })
        ];
        led_new = led_new_then;
        others = λ p short none none_led. elim (one_of (length p) d short) [
          | inl less ↦ rest.others p less (λ turn has. none turn (of_second level more turn has)) (λ turn has same. none turn (of_first level more turn has) (row_is turn has ∙ same))
          | inr long ↦ others_long p long none_led
        ];
        at = λ p short. elim (one_of (length p) d short) [ inl less ↦ rest.at p less | inr long ↦ at_long p long ];
        order = ordered_both level more (ordered_of d level over.up (λ turn has. ((each_of turn has).selector_is, (each_of turn has).depth_is, (each_of turn has).long))) rest.order
            (λ turn other has has_later. longer_first turn.query.selector other.query.selector (row_of turn) (row_of other)
            ((each_of turn has).selector_is ∙ sym (rest.each other has_later).selector_is)
            (let short = more_long other has_later in let long = row_long turn has in omega (arith, short, long)));
        covers = λ change has n short. elim (in_parts count changes change has) [
          | inl shorter ↦ (let found = rest.covers change shorter n short in (found.0, of_second level more found.0 found.1, found.2))
          | inr own ↦ (let found = over.covers change own in let long = own_long change own in
              covers_below found.0 found.1 change.query.classes found.2 n (omega (arith, short, long)))
        ];
        covers_led = λ other has n short. (let found = over.covers_led other has in covers_below found.0 found.1 other.query.classes found.2 n short);
        of_query = λ turn has. elim (in_both level more turn has) [
          | inl own ↦ elim (over.of_query turn own) [
            | inl found ↦ inl (found.0, of_drop count changes found.0 found.1, found.2)
            | inr found ↦ inr found
          ]
          | inr later ↦ elim (rest.of_query turn later) [
            | inl found ↦ inl (found.0, of_take count changes found.0 found.1, found.2)
            | inr found ↦ elim (over.of_query found.0 found.1) [
              | inl source ↦ inl (source.0, of_drop count changes source.0 source.1, source.2 ∙ found.2)
              | inr source ↦ inr (source.0, source.1, source.2 ∙ found.2)
            ]
          ]
        ];
        vacant = λ turn k has e. elim (in_both level more turn has) [
          | inl own ↦ over.vacant turn k own e
          | inr later ↦ no_row_before (rows k) (between k) (over.extends.kept k) (rest.vacant turn k later e)
        ];
        apart = λ one other k has_one has_other e_one e_other. elim (in_both level more one has_one) [
          | inl own ↦ elim (in_both level more other has_other) [
            | inl also ↦ row_is one own ∙ over.apart one other k own also e_one e_other ∙ sym (row_is other also)
            | inr later ↦ absurd (true≢false (sym ((each_of one own).at.there k e_one).1 ∙ ap is_some (rest.vacant other k later e_other)))
          ]
          | inr later ↦ elim (in_both level more other has_other) [
            | inl also ↦ absurd (true≢false (sym ((each_of other also).at.there k e_other).1 ∙ ap is_some (rest.vacant one k later e_one)))
            | inr also ↦ rest.apart one other k later also e_one e_other
          ]
        ];
        among = λ turn k has e. elim (in_both level more turn has) [
          | inl own ↦ rest.extends.stays k (over.among turn k own e)
          | inr later ↦ rest.among turn k later e
        ];
      }

  -- all lengths
  pub selector_over : (most : ℕ) (rows : KeptAt) (fresh : List ℕ) (changes : List Change) (led turns : List Turn) (rows_then : KeptAt) (fresh_then : List ℕ) (key : Option ℕ)
      → IsGiven most rows changes led → AreLevels root most rows fresh changes led turns rows_then fresh_then key
      → AreOver most rows fresh changes led turns rows_then fresh_then key
  selector_over zero rows fresh changes led turns rows_then fresh_then key given is =
      subst (λ (k : Option ℕ). AreOver 0 rows fresh changes led turns rows_then fresh_then k) (sym is.3)
      (subst (λ (l : List ℕ). AreOver 0 rows fresh changes led turns rows_then l (first_key root led)) (sym is.2)
      (subst (λ (r : KeptAt). AreOver 0 rows fresh changes led turns r fresh (first_key root led)) (sym is.1)
      (subst (λ (t : List Turn). AreOver 0 rows fresh changes led t rows fresh (first_key root led)) (sym is.0) (ends rows fresh changes led given))))
  selector_over (suc d) rows fresh changes led turns rows_then fresh_then key given is =
      subst (λ (t : List Turn). AreOver (suc d) rows fresh changes led t rows_then fresh_then key) (sym is.8)
      (join d rows fresh changes led given is.0 is.5 is.1 is.3 is.4 is.6 is.2 rows_then fresh_then key
      (selector_over d is.3 is.4 (take is.0 changes) is.1 is.2 rows_then fresh_then key
      (between_given d rows fresh changes led given is.0 is.5 is.1 is.3 is.4 is.6) is.7))
