-- The lists and look-ups of the images of a class with four selectors.
use Rattle.std.proofs.Common.{◌≡◌, ℕ, List, [], ◌∷◌}
use Rattle.std.specs.FinMap.{get, entries, find, entries-from_sorted, get-from_sorted}
use Rattle.std.specs.Ordering.{nat_cmp}
use Rattle.dt_pages.specs.FourSelectors as four

abbrev pub own_leaves : List (ℕ × ℕ)
own_leaves = (0, 1) ∷ (4096, 1) ∷ (4097, 1) ∷ (4098, 1) ∷ (4099, 1) ∷ (16777216, 4294967298) ∷ (16779264, 8589934594) ∷ (16781312, 12884901890) ∷ (16783360, 17179869186) ∷ []

pub listed_own_leaves : entries four.own_leaves ≡ own_leaves
listed_own_leaves = entries-from_sorted nat_cmp own_leaves tt

pub found_own_leaves : (address : ℕ) → get four.own_leaves address ≡ find nat_cmp address own_leaves
found_own_leaves address = get-from_sorted nat_cmp own_leaves address tt

abbrev pub own_leaves_changed : List (ℕ × ℕ)
own_leaves_changed = (0, 1) ∷ (4096, 1) ∷ (4097, 1) ∷ (4098, 1) ∷ (4099, 1) ∷ (16777216, 4294967299) ∷ (16779264, 8589934595) ∷ (16781312, 12884901891) ∷ (16783360, 17179869187) ∷ []

pub listed_own_leaves_changed : entries four.own_leaves_changed ≡ own_leaves_changed
listed_own_leaves_changed = entries-from_sorted nat_cmp own_leaves_changed tt

pub found_own_leaves_changed : (address : ℕ) → get four.own_leaves_changed address ≡ find nat_cmp address own_leaves_changed
found_own_leaves_changed address = get-from_sorted nat_cmp own_leaves_changed address tt

abbrev pub own_leaves_last : List (ℕ × ℕ)
own_leaves_last = (0, 1) ∷ (4096, 1) ∷ (4097, 1) ∷ (4098, 1) ∷ (4099, 1) ∷ (16777216, 4294967300) ∷ (16779264, 8589934595) ∷ (16781312, 12884901891) ∷ (16783360, 17179869187) ∷ []

pub listed_own_leaves_last : entries four.own_leaves_last ≡ own_leaves_last
listed_own_leaves_last = entries-from_sorted nat_cmp own_leaves_last tt

pub found_own_leaves_last : (address : ℕ) → get four.own_leaves_last address ≡ find nat_cmp address own_leaves_last
found_own_leaves_last address = get-from_sorted nat_cmp own_leaves_last address tt

abbrev pub one_leaf : List (ℕ × ℕ)
one_leaf = (0, 1) ∷ (4096, 1) ∷ (4097, 1) ∷ (4098, 1) ∷ (4099, 1) ∷ (8192, 1) ∷ (8193, 2) ∷ (8194, 3) ∷ (8195, 4) ∷ (67108864, 4294967298) ∷ (67108865, 8589934594) ∷ (67108866, 12884901890) ∷ (67108867, 17179869186) ∷ []

pub listed_one_leaf : entries four.one_leaf ≡ one_leaf
listed_one_leaf = entries-from_sorted nat_cmp one_leaf tt

pub found_one_leaf : (address : ℕ) → get four.one_leaf address ≡ find nat_cmp address one_leaf
found_one_leaf address = get-from_sorted nat_cmp one_leaf address tt

abbrev pub one_leaf_changed : List (ℕ × ℕ)
one_leaf_changed = (0, 1) ∷ (4096, 1) ∷ (4097, 1) ∷ (4098, 1) ∷ (4099, 1) ∷ (8192, 1) ∷ (8193, 2) ∷ (8194, 3) ∷ (8195, 4) ∷ (67108864, 4294967299) ∷ (67108865, 8589934595) ∷ (67108866, 12884901891) ∷ (67108867, 17179869187) ∷ []

pub listed_one_leaf_changed : entries four.one_leaf_changed ≡ one_leaf_changed
listed_one_leaf_changed = entries-from_sorted nat_cmp one_leaf_changed tt

pub found_one_leaf_changed : (address : ℕ) → get four.one_leaf_changed address ≡ find nat_cmp address one_leaf_changed
found_one_leaf_changed address = get-from_sorted nat_cmp one_leaf_changed address tt

abbrev pub one_leaf_last : List (ℕ × ℕ)
one_leaf_last = (0, 1) ∷ (4096, 1) ∷ (4097, 1) ∷ (4098, 1) ∷ (4099, 1) ∷ (8192, 1) ∷ (8193, 2) ∷ (8194, 3) ∷ (8195, 4) ∷ (67108864, 4294967300) ∷ (67108865, 8589934595) ∷ (67108866, 12884901891) ∷ (67108867, 17179869187) ∷ []

pub listed_one_leaf_last : entries four.one_leaf_last ≡ one_leaf_last
listed_one_leaf_last = entries-from_sorted nat_cmp one_leaf_last tt

pub found_one_leaf_last : (address : ℕ) → get four.one_leaf_last address ≡ find nat_cmp address one_leaf_last
found_one_leaf_last address = get-from_sorted nat_cmp one_leaf_last address tt
