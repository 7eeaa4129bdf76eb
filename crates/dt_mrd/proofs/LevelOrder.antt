-- Items in the order of the first classes of their queries.
use Rattle.std.proofs.Common.{◌≡◌, ◌≢◌, ℕ, zero, suc, ◌<◌, Bool, true, false, List, [], ◌∷◌, ◌++◌, length, take, drop, get_or, Option, Some, None, ◌⊎◌, inl, inr, refl, sym, ap, subst, ◌∙◌, arith}
use Rattle.std.proofs.lemmas.Bool.{true≢false}
use Rattle.std.proofs.lemmas.Bool.Decides.{nat_tests}
use Rattle.dt_scratch.specs.Query.{Query}
use Rattle.dt_scratch.specs.declared.reply.Change.{Change}
use Rattle.dt_cells.specs.HeldLaws.{by_cases, if_true, if_false}
use Rattle.dt_mrd.specs.declared.turn.Turn.{Turn}
use Rattle.dt_mrd.specs.Rows.{is_below}
use Rattle.dt_mrd.specs.Levels.{prefix_of, first_of, StopsAt, IsRun}
use Rattle.dt_mrd.proofs.Order.{first_by, first_strict, below_strict, below_total}
use Rattle.dt_mrd.proofs.LevelLists.{Has, of_drop}

-- ---- lists of classes

first_then : (m n k : ℕ) (s t u : Bool) → (s ≡ true → t ≡ false → u ≡ true) → first_by m n s ≡ true → first_by k n t ≡ false → first_by m k u ≡ true
first_then m n k true false u f e g = let h : u ≡ true = f refl refl in grind (arith, nat_tests, e, g, h)
first_then m n k true true u f e g = grind (arith, nat_tests, e, g)
first_then m n k false t u f e g = grind (arith, nat_tests, e, g)

-- before one that isn't after another
pub below_then : (a b c : List ℕ) → is_below a b ≡ true → is_below c b ≡ false → is_below a c ≡ true
below_then [] [] c less past = absurd (true≢false (sym less))
below_then (x ∷ xs) [] c less past = absurd (true≢false (sym less))
below_then [] (o ∷ os) [] less past = absurd (true≢false past)
below_then [] (o ∷ os) (k ∷ ks) less past = refl
below_then (x ∷ xs) (o ∷ os) [] less past = absurd (true≢false past)
below_then (x ∷ xs) (o ∷ os) (k ∷ ks) less past = first_then x o k (is_below xs os) (is_below ks os) (is_below xs ks) (below_then xs os ks) less past

-- at or after one that is at or after another
pub not_below : (a b c : List ℕ) → is_below b a ≡ false → is_below c b ≡ false → is_below c a ≡ false
not_below a b c no_b no_c = by_cases (is_below c a)
    (λ e. absurd (true≢false (sym (below_then c a b e no_b) ∙ no_c)))
    (λ e. e)

pub not_itself : (a : List ℕ) → is_below a a ≡ false
not_itself a = by_cases (is_below a a) (λ e. absurd (true≢false (sym e ∙ below_strict a a e))) (λ e. e)

pub below_differs : (a b : List ℕ) → is_below a b ≡ true → a ≢ b
below_differs a b less same = true≢false (sym (subst (λ (l : List ℕ). is_below a l ≡ true) (sym same) less) ∙ not_itself a)

-- prefixes don't descend
pub prefix_rises : (depth : ℕ) (a b : List ℕ) → is_below (take (suc depth) a) (take (suc depth) b) ≡ true → is_below (take depth b) (take depth a) ≡ false
prefix_rises zero a b less = refl
prefix_rises (suc depth) [] b less = refl
prefix_rises (suc depth) (x ∷ xs) [] less = absurd (true≢false (sym less))
prefix_rises (suc depth) (x ∷ xs) (y ∷ ys) less =
    first_strict x y (is_below (take (suc depth) xs) (take (suc depth) ys)) (is_below (take depth ys) (take depth xs)) (prefix_rises depth xs ys) less

pub take_next : (depth : ℕ) (l : List ℕ) → depth < length l → take (suc depth) l ≡ take depth l ++ (get_or l depth 0 ∷ [])
take_next depth [] within = absurd (omega (arith, within))
take_next zero (x ∷ xs) within = refl
take_next (suc depth) (x ∷ xs) within = ap (λ (l : List ℕ). x ∷ l) (take_next depth xs (omega (arith, within)))

pub length_prefix : (depth : ℕ) (l : List ℕ) → depth < length l → length (take depth l) ≡ depth
length_prefix zero l within = refl
length_prefix (suc depth) [] within = absurd (omega (arith, within))
length_prefix (suc depth) (x ∷ xs) within = let e : length (take depth xs) ≡ depth = length_prefix depth xs (omega (arith, within)) in omega (arith, e)

-- ---- items

module _ {T : Type 0} (query : T → Query) where
  -- each item's first classes come before those of later ones
  abbrev pub Ascends : ℕ → List T → Type 0
  Ascends depth [] = Unit {0}
  Ascends depth (first ∷ items) =
      ((item : T) → Has items item → is_below (prefix_of depth (query first)) (prefix_of depth (query item)) ≡ true) × Ascends depth items

  -- they don't come after those of later ones
  abbrev pub Rises : ℕ → List T → Type 0
  Rises depth [] = Unit {0}
  Rises depth (first ∷ items) =
      ((item : T) → Has items item → is_below (prefix_of depth (query item)) (prefix_of depth (query first)) ≡ false) × Rises depth items

  pub rises_of : (depth : ℕ) (items : List T) → Ascends (suc depth) items → Rises depth items
  rises_of depth [] up = tt
  rises_of depth (first ∷ items) up = (λ item has. prefix_rises depth (query first).classes (query item).classes (up.0 item has), rises_of depth items up.1)

  pub ascends_take : (depth count : ℕ) (items : List T) → Ascends depth items → Ascends depth (take count items)
  ascends_take depth zero items up = tt
  ascends_take depth (suc count) [] up = tt
  ascends_take depth (suc count) (first ∷ items) up = (λ item has. up.0 item (of_take_here count items item has), ascends_take depth count items up.1)
    where
      of_take_here : {T : Type 0} (count : ℕ) (items : List T) (item : T) → Has (take count items) item → Has items item
      of_take_here zero items item has = absurd has
      of_take_here (suc count) [] item has = absurd has
      of_take_here (suc count) (first ∷ items) item has = elim has [ inl is ↦ inl is | inr later ↦ inr (of_take_here count items item later) ]

  pub ascends_drop : (depth count : ℕ) (items : List T) → Ascends depth items → Ascends depth (drop count items)
  ascends_drop depth zero items up = up
  ascends_drop depth (suc count) [] up = tt
  ascends_drop depth (suc count) (first ∷ items) up = ascends_drop depth count items up.1

  pub rises_drop : (depth count : ℕ) (items : List T) → Rises depth items → Rises depth (drop count items)
  rises_drop depth zero items up = up
  rises_drop depth (suc count) [] up = tt
  rises_drop depth (suc count) (first ∷ items) up = rises_drop depth count items up.1

  -- what comes after a run of the first row is of later rows
  pub after_run : (depth count : ℕ) (row : List ℕ) (items : List T) → Rises depth items → ((item : T) → Has items item → is_below (prefix_of depth (query item)) row ≡ false)
      → IsRun query depth row items count → (item : T) → Has (drop count items) item → is_below row (prefix_of depth (query item)) ≡ true
  after_run depth count row items up least run = from (drop count items) (rises_drop depth count items up) (λ item has. least item (of_drop count items item has)) run.stops
    where
      from : (rest : List T) → Rises depth rest → ((item : T) → Has rest item → is_below (prefix_of depth (query item)) row ≡ false) → StopsAt query depth row rest
          → (item : T) → Has rest item → is_below row (prefix_of depth (query item)) ≡ true
      from [] up least stops item has = absurd has
      from (first ∷ rest) up least stops item has =
          let less : is_below row (prefix_of depth (query first)) ≡ true = below_total (prefix_of depth (query first)) row stops (least first (inl refl)) in
          elim has [
            | inl is ↦ subst (λ (i : T). is_below row (prefix_of depth (query i)) ≡ true) is less
            | inr later ↦ below_then row (prefix_of depth (query first)) (prefix_of depth (query item)) less (up.0 item later)
          ]

-- ---- the first row of a level

abbrev pub change_query : Change → Query
change_query change = change.query

abbrev pub turn_query : Turn → Query
turn_query turn = turn.query

abbrev is_none : Option Query → Bool
is_none None = true
is_none (Some query) = false

abbrev value : Query → Option Query → Query
value other None = other
value other (Some query) = query

-- the first query is of a change or of a row that had its turn
pub first_is : (depth : ℕ) (changes : List Change) (led : List Turn) (query : Query) → first_of depth changes led ≡ Some query
    → ((change : Change) × Has changes change × (change.query ≡ query)) ⊎ ((turn : Turn) × Has led turn × (turn.query ≡ query))
first_is depth [] [] query e = absurd (true≢false (ap is_none e))
first_is depth [] (turn ∷ led) query e = inr (turn, inl refl, ap (value turn.query) e)
first_is depth (change ∷ changes) [] query e = inl (change, inl refl, ap (value change.query) e)
first_is depth (change ∷ changes) (turn ∷ led) query e = by_cases (is_below (prefix_of depth turn.query) (prefix_of depth change.query))
    (λ t. inr (turn, inl refl, sym (if_true (is_below (prefix_of depth turn.query) (prefix_of depth change.query)) turn.query change.query t) ∙ ap (value change.query) e))
    (λ f. inl (change, inl refl, sym (if_false (is_below (prefix_of depth turn.query) (prefix_of depth change.query)) turn.query change.query f) ∙ ap (value change.query) e))

-- and no row of a change or of a row that had its turn comes before that of the first query
pub first_least : (depth : ℕ) (changes : List Change) (led : List Turn) (query : Query) → first_of depth changes led ≡ Some query
    → Rises change_query depth changes → Rises turn_query depth led
    → ((change : Change) → Has changes change → is_below (prefix_of depth change.query) (prefix_of depth query) ≡ false)
    × ((turn : Turn) → Has led turn → is_below (prefix_of depth turn.query) (prefix_of depth query) ≡ false)
first_least depth changes led query e up up_led = (λ change has. (least changes led up up_led e).0 change has, λ turn has. (least changes led up up_led e).1 turn has)
  where
    head_least : {T : Type 0} (query : T → Query) (depth : ℕ) (first : T) (items : List T) → Rises query depth (first ∷ items)
        → (item : T) → Has (first ∷ items) item → is_below (prefix_of depth (query item)) (prefix_of depth (query first)) ≡ false
    head_least query depth first items up item has = elim has [
      | inl is ↦ subst (λ (i : _). is_below (prefix_of depth (query i)) (prefix_of depth (query first)) ≡ false) is (not_itself (prefix_of depth (query first)))
      | inr later ↦ up.0 item later
    ]

    to : (other query : Query) (l : List ℕ) → value other (Some other) ≡ value other (Some query) → is_below l (prefix_of depth other) ≡ false → is_below l (prefix_of depth query) ≡ false
    to other query l same b = subst (λ (q : Query). is_below l (prefix_of depth q) ≡ false) same b

    least : (changes : List Change) (led : List Turn) → Rises change_query depth changes → Rises turn_query depth led → first_of depth changes led ≡ Some query
        → ((change : Change) → Has changes change → is_below (prefix_of depth change.query) (prefix_of depth query) ≡ false)
        × ((turn : Turn) → Has led turn → is_below (prefix_of depth turn.query) (prefix_of depth query) ≡ false)
    least [] [] up up_led e = absurd (true≢false (ap is_none e))
    least [] (turn ∷ led) up up_led e = (λ c has. absurd has, λ t has. to turn.query query (prefix_of depth t.query) (ap (value turn.query) e) (head_least turn_query depth turn led up_led t has))
    least (change ∷ changes) [] up up_led e = (λ c has. to change.query query (prefix_of depth c.query) (ap (value change.query) e) (head_least change_query depth change changes up c has), λ t has. absurd has)
    least (change ∷ changes) (turn ∷ led) up up_led e = by_cases (is_below (prefix_of depth turn.query) (prefix_of depth change.query))
        (λ t. (let same : turn.query ≡ query = sym (if_true (is_below (prefix_of depth turn.query) (prefix_of depth change.query)) turn.query change.query t) ∙ ap (value change.query) e in (
          λ c has. to turn.query query (prefix_of depth c.query) same (not_below (prefix_of depth turn.query) (prefix_of depth change.query) (prefix_of depth c.query)
              (below_strict (prefix_of depth turn.query) (prefix_of depth change.query) t) (head_least change_query depth change changes up c has)),
          λ u has. to turn.query query (prefix_of depth u.query) same (head_least turn_query depth turn led up_led u has),
        )))
        (λ f. (let same : change.query ≡ query = sym (if_false (is_below (prefix_of depth turn.query) (prefix_of depth change.query)) turn.query change.query f) ∙ ap (value change.query) e in (
          λ c has. to change.query query (prefix_of depth c.query) same (head_least change_query depth change changes up c has),
          λ u has. to change.query query (prefix_of depth u.query) same (not_below (prefix_of depth change.query) (prefix_of depth turn.query) (prefix_of depth u.query)
              f (head_least turn_query depth turn led up_led u has)),
        )))
