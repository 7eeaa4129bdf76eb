-- The list of reached pages has those of the relation, each once.
use Rattle.std.proofs.Common.{◌≡◌, ◌⊎◌, ◌↔◌, ℕ, zero, suc, ◌+◌, ◌<◌, ◌==◌, ◌||◌, Bool, true, false, cond, List, [], ◌∷◌, length, get_or, Contains, refl, sym, ap, subst, ◌∙◌, inl, inr, arith, eqb-true, eq-eqb, true≢false}
use Rattle.std.specs.List.{IsDistinct, AllByRecursion, flat_map, list_any, range_with_len}
use Rattle.std.proofs.lemmas.List.{get_or_default}
use Rattle.std.proofs.lemmas.List.Concat.{flat_map-cons}
use Rattle.std.proofs.lemmas.List.Folds.{list_any-append}
use Rattle.std.proofs.lemmas.List.FromFn.{get_or-range_with_len, length-range_with_len}
use Rattle.std.proofs.lemmas.Map.Views.{Contains-from_any}
use Rattle.dt_pages.specs.Reading.{Pages, page_words, levels, Meets}
use Rattle.dt_pages.specs.Reach.{met, each_once, reached, EachReachIsListed}

-- the number stands in the list
abbrev pub has : ℕ → List ℕ → Bool
has number numbers = list_any (λ other. number == other) numbers

or_of : (a b : Bool) → (a || b) ≡ true → (a ≡ true) ⊎ (b ≡ true)
or_of true b is = inl refl
or_of false b is = inr is

or_first : (a b : Bool) → a ≡ true → (a || b) ≡ true
or_first a b is = ap (λ c. c || b) is

or_second : (a b : Bool) → b ≡ true → (a || b) ≡ true
or_second true b is = refl
or_second false b is = is

-- ---- each once

has_once : (number : ℕ) (numbers : List ℕ) → (has number (each_once numbers) ≡ true) ↔ (has number numbers ≡ true)
has_once number [] = (λ is. is, λ is. is)
has_once number (first ∷ numbers) = go (has first numbers) refl (has_once number numbers)
  where
    twice : has first numbers ≡ true → (number == first) ≡ true → has number numbers ≡ true
    twice is same = subst (λ k. has k numbers ≡ true) (sym (eqb-true number first same)) is

    less : (has number (each_once numbers) ≡ true) ↔ (has number numbers ≡ true) → ((number == first) ≡ true) ⊎ (has number (each_once numbers) ≡ true) → ((number == first) || has number numbers) ≡ true
    less rest (inl same) = or_first (number == first) (has number numbers) same
    less rest (inr is) = or_second (number == first) (has number numbers) (rest.0 is)

    more : (has number (each_once numbers) ≡ true) ↔ (has number numbers ≡ true) → ((number == first) ≡ true) ⊎ (has number numbers ≡ true) → ((number == first) || has number (each_once numbers)) ≡ true
    more rest (inl same) = or_first (number == first) (has number (each_once numbers)) same
    more rest (inr is) = or_second (number == first) (has number (each_once numbers)) (rest.1 is)

    either : (has number (each_once numbers) ≡ true) ↔ (has number numbers ≡ true) → has first numbers ≡ true → ((number == first) ≡ true) ⊎ (has number numbers ≡ true) → has number (each_once numbers) ≡ true
    either rest there (inl same) = rest.1 (twice there same)
    either rest there (inr is) = rest.1 is

    go : (there : Bool) → has first numbers ≡ there → (has number (each_once numbers) ≡ true) ↔ (has number numbers ≡ true)
        → (has number (cond there (each_once numbers) (first ∷ each_once numbers)) ≡ true) ↔ (((number == first) || has number numbers) ≡ true)
    go true is rest = (λ found. or_second (number == first) (has number numbers) (rest.0 found), λ found. either rest is (or_of (number == first) (has number numbers) found))
    go false is rest = (λ found. less rest (or_of (number == first) (has number (each_once numbers)) found), λ found. more rest (or_of (number == first) (has number numbers) found))

-- a number that is not there is none of them
none_of : (number : ℕ) (numbers : List ℕ) → has number numbers ≡ false → AllByRecursion (λ other. (number == other) ≡ false) numbers
none_of number [] is = tt
none_of number (first ∷ numbers) is = (left (number == first) (has number numbers) is, none_of number numbers (right (number == first) (has number numbers) is))
  where
    left : (a b : Bool) → (a || b) ≡ false → a ≡ false
    left true b is = is
    left false b is = refl

    right : (a b : Bool) → (a || b) ≡ false → b ≡ false
    right true b is = absurd (true≢false is)
    right false b is = is

once_is_distinct : (numbers : List ℕ) → IsDistinct (λ a b. a == b) (each_once numbers)
unfolding IsDistinct
once_is_distinct [] = tt
once_is_distinct (first ∷ numbers) = go (has first numbers) refl (once_is_distinct numbers)
  where
    not_there : (b : Bool) → has first (each_once numbers) ≡ b → has first numbers ≡ false → b ≡ false
    not_there true is none = absurd (true≢false (sym ((has_once first numbers).0 is) ∙ none))
    not_there false is none = refl

    go : (there : Bool) → has first numbers ≡ there → IsDistinct (λ a b. a == b) (each_once numbers) → IsDistinct (λ a b. a == b) (cond there (each_once numbers) (first ∷ each_once numbers))
    go true is rest = rest
    go false is rest = (none_of first (each_once numbers) (not_there (has first (each_once numbers)) refl is), rest)

-- ---- the pages met

-- what one of the lists has
in_lists : (number : ℕ) (f : ℕ → List ℕ) (xs : List ℕ) → (has number (flat_map f xs) ≡ true) ↔ ((k : ℕ) × (k < length xs) × (has number (f (get_or xs k 0)) ≡ true))
in_lists number f [] = (λ is. absurd (true≢false (sym is)), λ found. absurd (omega (arith, found.1)))
in_lists number f (x ∷ xs) =
    let rest = in_lists number f xs in (
      (λ is. go rest (or_of (has number (f x)) (has number (flat_map f xs)) (sym split ∙ is))),
      (λ found. split ∙ back rest found.0 found.1 found.2),
    )
  where
    split : has number (flat_map f (x ∷ xs)) ≡ (has number (f x) || has number (flat_map f xs))
    split = ap (has number) (flat_map-cons f x xs) ∙ list_any-append (λ other. number == other) (f x) (flat_map f xs)

    Found : List ℕ → Type 0
    Found ys = (k : ℕ) × (k < length ys) × (has number (f (get_or ys k 0)) ≡ true)

    go : (has number (flat_map f xs) ≡ true) ↔ Found xs → (has number (f x) ≡ true) ⊎ (has number (flat_map f xs) ≡ true) → Found (x ∷ xs)
    go rest (inl is) = (0, omega arith, is)
    go rest (inr is) = let found = rest.0 is in (suc found.0, omega (arith, found.1), found.2)

    back : (has number (flat_map f xs) ≡ true) ↔ Found xs → (k : ℕ) → k < length (x ∷ xs) → has number (f (get_or (x ∷ xs) k 0)) ≡ true → (has number (f x) || has number (flat_map f xs)) ≡ true
    back rest zero below is = or_first (has number (f x)) (has number (flat_map f xs)) is
    back rest (suc k) below is = or_second (has number (f x)) (has number (flat_map f xs)) (rest.1 (k, omega arith, is))

met_is_met : (pages : Pages) (level found page : ℕ) → (has page (met pages level found) ≡ true) ↔ Meets pages level found page
unfolding met
met_is_met pages zero found page = (λ is. absurd (true≢false (sym is)), λ never. absurd never)
met_is_met pages (suc level) found page = (
  (λ is. down (met_is_met pages level) (or_of (page == found) (has page below) is)),
  (λ way. up (met_is_met pages level) way),
)
  where
    below : List ℕ
    below = flat_map (λ at. met pages level (pages found at)) (range_with_len 0 page_words)

    place : (at : ℕ) → at < page_words → get_or (range_with_len 0 page_words) at 0 ≡ at
    place at under = get_or-range_with_len 0 page_words at 0 under ∙ (let same : 0 + at ≡ at = omega arith in same)

    in_below : (has page (flat_map (λ at. met pages level (pages found at)) (range_with_len 0 page_words)) ≡ true)
        ↔ ((k : ℕ) × (k < length (range_with_len 0 page_words)) × (has page (met pages level (pages found (get_or (range_with_len 0 page_words) k 0))) ≡ true))
    in_below = in_lists page (λ at. met pages level (pages found at)) (range_with_len 0 page_words)

    Lower : Type 0
    Lower = (next page : ℕ) → (has page (met pages level next) ≡ true) ↔ Meets pages level next page

    down : Lower → ((page == found) ≡ true) ⊎ (has page (flat_map (λ at. met pages level (pages found at)) (range_with_len 0 page_words)) ≡ true) → Meets pages (suc level) found page
    down lower (inl same) = inl (sym (eqb-true page found same))
    down lower (inr is) =
        let found_at = in_below.0 is in
        let under : found_at.0 < page_words = omega (arith, found_at.1, length-range_with_len 0 page_words) in
        inr (
          found_at.0,
          under,
          (lower (pages found found_at.0) page).0
              (subst (λ at. has page (met pages level (pages found at)) ≡ true) (place found_at.0 under) found_at.2),
        )

    up : Lower → Meets pages (suc level) found page → ((page == found) || has page (flat_map (λ at. met pages level (pages found at)) (range_with_len 0 page_words))) ≡ true
    up lower (inl same) = or_first (page == found) _ (eq-eqb page found (sym same))
    up lower (inr (at, under, way)) = or_second (page == found) _ (in_below.1 (
      at,
      omega (arith, under, length-range_with_len 0 page_words),
      subst (λ k. has page (met pages level (pages found k)) ≡ true) (sym (place at under)) ((lower (pages found at) page).1 way),
    ))

-- ---- the list

has_where : (numbers : List ℕ) (number k : ℕ) → k < length numbers → get_or numbers k 0 ≡ number → has number numbers ≡ true
has_where [] number k below is = absurd (omega arith)
has_where (first ∷ numbers) number zero below is = or_first (number == first) (has number numbers) (eq-eqb number first (sym is))
has_where (first ∷ numbers) number (suc k) below is = or_second (number == first) (has number numbers) (has_where numbers number k (omega arith) is)

contained : (numbers : List ℕ) (number : ℕ) → Contains numbers number ↔ (has number numbers ≡ true)
contained numbers number = (
  (λ found. has_where numbers number found.0 found.1 (sym (get_or_default numbers found.0 number 0 found.1) ∙ found.2)),
  (λ is. Contains-from_any {eq = λ a b. a == b} (λ a b same. eqb-true a b same) number numbers is),
)

pub each_reach_is_listed : EachReachIsListed
unfolding reached
each_reach_is_listed pages top = record {
  each_once = once_is_distinct (met pages levels top);
  reached = λ page. (
    (λ found. (met_is_met pages levels top page).0 ((has_once page (met pages levels top)).0 ((contained (each_once (met pages levels top)) page).0 found))),
    (λ way. (contained (each_once (met pages levels top)) page).1 ((has_once page (met pages levels top)).1 ((met_is_met pages levels top page).1 way))),
  );
}
