-- Places of nodes are counted once, and exactly where a word is set below them.
use Rattle.std.proofs.Common.{◌≡◌, ℕ, zero, suc, ◌/◌, ◌^◌, ◌<◌, ◌≤◌, ◌==◌, ◌&&◌, nat_lt, Bool, true, false, cond, T, Less, Equal, Greater, is_lt, List, [], ◌∷◌, map, length, get_or, Contains, refl, sym, ap, subst, ◌∙◌, arith, eqb, le-ltb, ltb→lt, pow-suc, add-one, ◌≢◌, ◌++◌, ◌||◌, ◌↔◌, not, is_eq, unwrap_or, Some, eq-eqb, ne_eqb, eqb-true, ltb-true, true≢false, ap₂}
use Rattle.std.proofs.lemmas.List.Folds.{list_any-append, Any-from_list_any}
use Rattle.std.specs.List.{list_any}
use native.Mathlib.Decide.{ℕ_discrete}
use Rattle.std.proofs.lemmas.List.{get_or_default, get_or-map, length-map}
use Rattle.std.proofs.Common.{div-mul-le_self}
use Rattle.std.proofs.lemmas.Nat.{le-div}
use Rattle.std.proofs.lemmas.Map.Keys.{IsStrictlyIncreasing-dedup}
use Rattle.std.proofs.lemmas.List.Kept.{Contains-dedup_nat, Contains-from_dedup}
use Rattle.std.specs.List.Sorted.{IsSorted}
use Rattle.std.specs.FinMap.{entries, entries_sorted, find, get-entries}
use Rattle.std.specs.FinMap.Entries.{is_sorted, below_all}
use Rattle.std.specs.Ordering.{nat_cmp, eq_by_cmp}
use Rattle.dt_pages.specs.Image.{Image, place, look_up, differs_below}
use Rattle.dt_pages.specs.Laws.{HasWordBelow, PlacesAreCounted, PlacesDiffer}

size_pos : (level : ℕ) → 0 < 512 ^ level
size_pos zero = omega arith
size_pos (suc level) = omega (arith, pow-suc 512 level, size_pos level)

-- of two addresses the lower has no higher place
place_rises : (level a b : ℕ) → a ≤ b → place level a ≤ place level b
place_rises level a b below = le-div (a / 512 ^ level) b (512 ^ level) (size_pos level) (omega (arith, below, div-mul-le_self a (512 ^ level)))

less_test : (less same : Bool) → is_lt (cond less Less (cond same Equal Greater)) ≡ less
less_test true same = refl
less_test false true = refl
less_test false false = refl

pub both_true : (a b : Bool) → T (a && b) → T a × T b
both_true true b h = (tt, h)
both_true false b h = absurd h

-- the first address is below the second
pub first_below : (a b : ℕ × ℕ) (es : List (ℕ × ℕ)) → T (is_sorted nat_cmp (a ∷ b ∷ es)) → a.0 < b.0
first_below a b es sorted =
    let all = both_true (below_all nat_cmp a.0 (b ∷ es)) (is_sorted nat_cmp (b ∷ es)) sorted in
    let first : T (nat_lt a.0 b.0) = subst T (less_test (nat_lt a.0 b.0) (a.0 == b.0)) (both_true (is_lt (nat_cmp a.0 b.0)) (below_all nat_cmp a.0 es) all.0).0 in
    ltb→lt a.0 b.0 first

-- the places of ascending addresses do not fall
places_sorted : (level : ℕ) (es : List (ℕ × ℕ)) → T (is_sorted nat_cmp es) → IsSorted nat_cmp (map (λ set. place level set.0) es)
places_sorted level [] sorted k d low below = absurd (omega arith)
places_sorted level (a ∷ []) sorted k d low below = absurd (omega arith)
places_sorted level (a ∷ b ∷ es) sorted zero d low below =
    less_test (nat_lt (place level b.0) (place level a.0)) (place level b.0 == place level a.0)
    ∙ le-ltb (place level b.0) (place level a.0) (place_rises level a.0 b.0 (omega (arith, first_below a b es sorted)))
places_sorted level (a ∷ b ∷ es) sorted (suc k) d low below =
    let rest = places_sorted level (b ∷ es) (both_true (below_all nat_cmp a.0 (b ∷ es)) (is_sorted nat_cmp (b ∷ es)) sorted).1 k d (omega arith) (omega arith) in
    rw add-one (rw add-one at rest)

pub places_counted : (image : Image) (level : ℕ) → PlacesAreCounted image level
places_counted image level = record {
  each_once = IsStrictlyIncreasing-dedup places (places_sorted level (entries image) (entries_sorted image));
  used = λ at. (λ counted. below at (Contains-from_dedup eqb places at counted), λ set. Contains-dedup_nat places at (above at set));
}
  where
    places : List ℕ
    places = map (λ set. place level set.0) (entries image)

    below : (at : ℕ) → Contains places at → HasWordBelow image level at
    below at found =
        let in_list : found.0 < length (entries image) = omega (arith, found.1, length-map (entries image) (λ set. place level set.0)) in
        let set : ℕ × ℕ = get_or (entries image) found.0 (0, 0) in (
          found.0,
          set,
          in_list,
          get_or_default (entries image) found.0 set (0, 0) in_list,
          sym (get_or-map (λ s. place level s.0) (entries image) found.0 (0, 0) at in_list) ∙ found.2,
        )

    above : (at : ℕ) → HasWordBelow image level at → Contains places at
    above at word = (
      word.0,
      omega (arith, word.2, length-map (entries image) (λ set. place level set.0)),
      get_or-map (λ s. place level s.0) (entries image) word.0 word.1 at word.2 ∙ ap (λ s. place level s.0) word.3 ∙ word.4,
    )

-- the test of keys is the test of numbers
pub same_test : (a b : ℕ) → eq_by_cmp nat_cmp a b ≡ (a == b)
same_test a b = go (nat_lt a b) (a == b) (λ less. ne_eqb a b (omega (arith, ltb-true a b less)))
  where
    go : (less same : Bool) → (less ≡ true → same ≡ false) → is_eq (cond less Less (cond same Equal Greater)) ≡ same
    go true true apart = sym (apart refl)
    go true false apart = refl
    go false true apart = refl
    go false false apart = refl

-- an address with a word stands in the list
found_in : (address : ℕ) (es : List (ℕ × ℕ)) → unwrap_or (find nat_cmp address es) 0 ≢ 0 → list_any (λ set. set.0 == address) es ≡ true
found_in address [] some = absurd (some refl)
found_in address (e ∷ es) some = go (found_in address es) (address == e.0) refl
  where
    turned : (b : Bool) → (address == e.0) ≡ b → (e.0 == address) ≡ b
    turned true is = eq-eqb e.0 address (sym (eqb-true address e.0 is))
    turned false is = ne_eqb e.0 address (λ same. true≢false (sym (eq-eqb address e.0 (sym same)) ∙ is))

    go : (unwrap_or (find nat_cmp address es) 0 ≢ 0 → list_any (λ set. set.0 == address) es ≡ true) → (same : Bool) → (address == e.0) ≡ same
        → ((e.0 == address) || list_any (λ set. set.0 == address) es) ≡ true
    go later true is = ap (λ b. b || list_any (λ set. set.0 == address) es) (turned true is)
    go later false is = ap (λ b. b || list_any (λ set. set.0 == address) es) (turned false is)
        ∙ later (λ none. some (ap (λ b. unwrap_or (cond b (Some e.1) (find nat_cmp address es)) 0) (same_test address e.0 ∙ is) ∙ none))

pub in_entries : (image : Image) (address : ℕ) → look_up image address ≢ 0 → list_any (λ set. set.0 == address) (entries image) ≡ true
in_entries image address some = found_in address (entries image) (λ none. some (ap (λ found. unwrap_or found 0) (get-entries image address) ∙ none))

or_second : (a b : Bool) → b ≡ true → (a || b) ≡ true
or_second true b is = refl
or_second false b is = is

any_more : {X : Type 0} (p q : X → Bool) → ((x : X) → p x ≡ true → q x ≡ true) → (xs : List X) → list_any p xs ≡ true → list_any q xs ≡ true
any_more p q more [] none = none
any_more p q more (x ∷ xs) some = go (p x) refl (any_more p q more xs) some
  where
    go : (b : Bool) → p x ≡ b → (list_any p xs ≡ true → list_any q xs ≡ true) → (b || list_any p xs) ≡ true → (q x || list_any q xs) ≡ true
    go true is later some = ap (λ b. b || list_any q xs) (more x is)
    go false is later some = or_second (q x) (list_any q xs) (later some)

module _ (old new : Image) (level at : ℕ) where
  seen : ℕ × ℕ → Bool
  seen set = (place level set.0 == at) && not (look_up old set.0 == look_up new set.0)

  differs : (address : ℕ) → place level address ≡ at → look_up old address ≢ look_up new address → (set : ℕ × ℕ) → (set.0 == address) ≡ true → seen set ≡ true
  unfolding seen
  differs address there other set same =
      let is : set.0 ≡ address = eqb-true set.0 address same in
      ap₂ (λ a b. a && not b) (eq-eqb (place level set.0) at (ap (place level) is ∙ there))
      (ne_eqb (look_up old set.0) (look_up new set.0) (λ e. other (ap (look_up old) (sym is) ∙ e ∙ ap (look_up new) is)))

  in_one : (address : ℕ) → look_up old address ≢ look_up new address → list_any (λ set. set.0 == address) (entries old ++ entries new) ≡ true
  in_one address other = list_any-append (λ set. set.0 == address) (entries old) (entries new) ∙ elim (ℕ_discrete (look_up old address) 0) [
    | yes e ↦ or_second (list_any (λ set. set.0 == address) (entries old)) (list_any (λ set. set.0 == address) (entries new)) (in_entries new address (λ f. other (e ∙ sym f)))
    | no n ↦ ap (λ b. b || list_any (λ set. set.0 == address) (entries new)) (in_entries old address n)
  ]

  parts : (set : ℕ × ℕ) → seen set ≡ true → PlacesDiffer old new level at
  unfolding seen
  parts set is = go (place level set.0 == at) (look_up old set.0 == look_up new set.0) refl refl is
    where
      go : (a b : Bool) → (place level set.0 == at) ≡ a → (look_up old set.0 == look_up new set.0) ≡ b → (a && not b) ≡ true → PlacesDiffer old new level at
      go true true p q h = absurd (true≢false (sym h))
      go true false p q h = record { address = set.0; is_there = eqb-true (place level set.0) at p; is_other = λ same. true≢false (sym (eq-eqb (look_up old set.0) (look_up new set.0) same) ∙ q) }
      go false b p q h = absurd (true≢false (sym h))

  pub differences_seen : (differs_below old new level at ≡ true) ↔ PlacesDiffer old new level at
  unfolding seen
  differences_seen = (
    (λ is. let found = Any-from_list_any seen (entries old ++ entries new) is in parts found.1 found.4),
    (λ d. any_more (λ set. set.0 == d.address) seen (differs d.address d.is_there d.is_other) (entries old ++ entries new) (in_one d.address d.is_other)),
  )
