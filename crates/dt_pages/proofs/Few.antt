-- The nodes of an image are few: one at the top, those between, and at most one leaf for each word.
use Rattle.std.proofs.Common.{◌≡◌, ◌⊎◌, ℕ, zero, suc, ◌+◌, ◌-◌, ◌<◌, ◌≤◌, ◌==◌, Bool, true, false, cond, List, [], ◌∷◌, map, length, get_or, All, refl, subst, inl, inr, arith, add-one}
use Rattle.std.proofs.lemmas.List.{get_or_default, length-map}
use Rattle.std.specs.List.{dedup, dedup_from}
use Rattle.std.specs.List.Sorted.{IsStrictlyIncreasing}
use Rattle.std.specs.FinMap.{entries}
use Rattle.dt_pages.specs.Reading.{addresses, levels}
use Rattle.dt_pages.specs.Image.{Image, IsImage, place, used_places, nodes_up_to, above_leaves_up_to, between, IsInRegion, IsInRegions}
use Rattle.dt_pages.specs.Laws.{HasWordBelow, NodesAreFew, NodesInRegionsAreFew}
use Rattle.dt_pages.proofs.Nodes.{places_counted}

-- no more are left of a list than it has
dedup_from_fewer : (first : ℕ) (xs : List ℕ) → length (dedup_from (λ a b. a == b) first xs) ≤ length xs + 1
dedup_from_fewer first [] = omega arith
dedup_from_fewer first (x ∷ xs) = go (x == first) (dedup_from_fewer first xs) (dedup_from_fewer x xs)
  where
    go : (same : Bool) → length (dedup_from (λ a b. a == b) first xs) ≤ length xs + 1 → length (dedup_from (λ a b. a == b) x xs) ≤ length xs + 1
        → length (cond same (dedup_from (λ a b. a == b) first xs) (first ∷ dedup_from (λ a b. a == b) x xs)) ≤ length (x ∷ xs) + 1
    go true without with_it = omega (arith, without)
    go false without with_it = omega (arith, with_it)

dedup_fewer : (xs : List ℕ) → length (dedup (λ a b. a == b) xs) ≤ length xs
dedup_fewer [] = omega arith
dedup_fewer (x ∷ xs) = omega (arith, dedup_from_fewer x xs)

-- what holds of the places of all addresses holds of each place that is used
used_from : (image : Image) (level : ℕ) (P Q : ℕ → Type 0) → ((address : ℕ) → P address → Q (place level address)) → All (λ set. P set.0) (entries image)
    → (k : ℕ) → k < length (used_places image level) → Q (get_or (used_places image level) k 0)
used_from image level P Q from all k below =
    let at : ℕ = get_or (used_places image level) k 0 in
    let word : HasWordBelow image level at = ((places_counted image level).used at).0 (k, below, get_or_default (used_places image level) k at 0 below) in
    let set : ℕ × ℕ = word.1 in
    subst Q word.4 (from set.0 (subst (λ (s : ℕ × ℕ). P s.0) word.3 (all word.0 set word.2)))

-- numbers that rise, each of which is one of Q, climb as Q lets them
climbs : (Q : ℕ → Type 0) (B : ℕ → ℕ → Type 0) → ((m : ℕ) → Q m → B 0 m) → ((k m n : ℕ) → B k m → m < n → Q n → B (suc k) n)
    → (xs : List ℕ) → IsStrictlyIncreasing xs → ((k : ℕ) → k < length xs → Q (get_or xs k 0)) → (k : ℕ) → k < length xs → B k (get_or xs k 0)
climbs Q B base next xs rise each zero below = base (get_or xs 0 0) (each 0 below)
climbs Q B base next xs rise each (suc k) below =
    let up : get_or xs k 0 < get_or xs (suc k) 0 = rw add-one at (rise k (omega arith)) in
    next k (get_or xs k 0) (get_or xs (suc k) 0) (climbs Q B base next xs rise each k (omega arith)) up (each (suc k) below)

-- ---- the top

only_top : (address : ℕ) → address < addresses → place levels address ≡ 0
only_top address below = omega (arith, below)

one_top : (image : Image) → IsImage image → length (used_places image levels) ≤ 1
one_top image is_image = short (length (used_places image levels)) (λ k below.
    climbs (λ m. m ≡ 0) (λ k m. (k ≡ 0) × (m ≡ 0)) (λ m is. (refl, is)) (λ k m n so up is. absurd (omega (arith, up, is)))
    (used_places image levels) (places_counted image levels).each_once
    (used_from image levels (λ address. address < addresses) (λ m. m ≡ 0) only_top (λ k d in_list. (is_image k d in_list).0)) k below)
  where
    short : (n : ℕ) → ((k : ℕ) → k < n → (k ≡ 0) × (get_or (used_places image levels) k 0 ≡ 0)) → n ≤ 1
    short zero each = omega arith
    short (suc zero) each = omega arith
    short (suc (suc n)) each = absurd (omega (arith, (each 1 (omega arith)).0))

leaves_are_few : (image : Image) → length (used_places image 1) ≤ length (entries image)
leaves_are_few image = omega (arith, dedup_fewer (map (λ set. place 1 set.0) (entries image)), length-map (entries image) (λ set. place 1 set.0))

-- the leaves, and those above them
split : (image : Image) (level : ℕ) → nodes_up_to (suc level) image ≡ length (used_places image 1) + above_leaves_up_to level image
split image zero = omega arith
split image (suc level) = omega (arith, split image level)

pub nodes_are_few : NodesAreFew
nodes_are_few image is_image = omega (arith, split image (levels - 2), one_top image is_image, leaves_are_few image)

-- ---- those between

-- the middle positions of the regions
abbrev IsMiddle : ℕ → Type 0
IsMiddle m = (m ≡ 0) ⊎ ((64 ≤ m) × (m < 128)) ⊎ ((256 ≤ m) × (m < 512))

-- so many are at most below a middle position
abbrev Climbed : ℕ → ℕ → Type 0
Climbed k m = ((m ≡ 0) × (k ≡ 0)) ⊎ ((64 ≤ m) × (m < 128) × (k + 63 ≤ m)) ⊎ ((256 ≤ m) × (m < 512) × (k + 191 ≤ m))

middle : (address : ℕ) → IsInRegion address → IsMiddle (place 2 address)
middle address (inl low) = inl (omega (arith, low))
middle address (inr (inl cells)) = let first = cells.0 in let last = cells.1 in inr (inl (omega (arith, first), omega (arith, last)))
middle address (inr (inr cells)) = let first = cells.0 in let last = cells.1 in inr (inr (omega (arith, first), omega (arith, last)))

first_middle : (m : ℕ) → IsMiddle m → Climbed 0 m
first_middle m (inl is) = inl (is, refl)
first_middle m (inr (inl (low, high))) = inr (inl (low, high, omega (arith, low)))
first_middle m (inr (inr (low, high))) = inr (inr (low, high, omega (arith, low)))

next_middle : (k m n : ℕ) → Climbed k m → m < n → IsMiddle n → Climbed (suc k) n
next_middle k m n so up (inl is) = absurd (omega (arith, up, is))
next_middle k m n (inl (is, none)) up (inr (inl (low, high))) = inr (inl (low, high, omega (arith, none, low)))
next_middle k m n (inr (inl (from, to, climbed))) up (inr (inl (low, high))) = inr (inl (low, high, omega (arith, climbed, up)))
next_middle k m n (inr (inr (from, to, climbed))) up (inr (inl (low, high))) = absurd (omega (arith, from, up, high))
next_middle k m n (inl (is, none)) up (inr (inr (low, high))) = inr (inr (low, high, omega (arith, none, low)))
next_middle k m n (inr (inl (from, to, climbed))) up (inr (inr (low, high))) = inr (inr (low, high, omega (arith, climbed, to, low)))
next_middle k m n (inr (inr (from, to, climbed))) up (inr (inr (low, high))) = inr (inr (low, high, omega (arith, climbed, up)))

at_most : (k m : ℕ) → Climbed k m → k ≤ 320
at_most k m (inl (is, none)) = omega (arith, none)
at_most k m (inr (inl (from, to, climbed))) = omega (arith, to, climbed)
at_most k m (inr (inr (from, to, climbed))) = omega (arith, to, climbed)

few_between : (image : Image) → IsInRegions image → between image ≤ 321
few_between image regions = omega (
  arith,
  short (length (used_places image 2)) (λ k below. at_most k (get_or (used_places image 2) k 0)
      (climbs IsMiddle Climbed first_middle next_middle (used_places image 2) (places_counted image 2).each_once (used_from image 2 IsInRegion IsMiddle middle regions) k below)),
)
  where
    short : (n : ℕ) → ((k : ℕ) → k < n → k ≤ 320) → n ≤ 321
    short zero each = omega arith
    short (suc n) each = omega (arith, each n (omega arith))

pub nodes_in_regions_are_few : NodesInRegionsAreFew
nodes_in_regions_are_few image is_image regions = omega (arith, nodes_are_few image is_image, few_between image regions)
