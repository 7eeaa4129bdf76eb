use Rattle.std.proofs.Common.{ℕ, refl}
use Rattle.std.specs.FinMap.{get-empty}
use Rattle.std.specs.Ordering.{nat_cmp}
use Rattle.dt_pages.proofs.ThreeWords.{none_listed}
use Rattle.dt_pages.proofs.FourSelectors.{listed_own_leaves, found_own_leaves, listed_own_leaves_changed, found_own_leaves_changed, listed_own_leaves_last, found_own_leaves_last, listed_one_leaf, found_one_leaf, listed_one_leaf_changed, found_one_leaf_changed, listed_one_leaf_last, found_one_leaf_last}
use Rattle.dt_pages.proofs.needs_of_four_selectors.Goals as goal

pub returns : goal.returns
returns c = record {
  own_leaves_first = simp (listed_own_leaves, none_listed, found_own_leaves, get-empty {X = ℕ} nat_cmp) refl;
  own_leaves_second = simp (listed_own_leaves, listed_own_leaves_changed, found_own_leaves, found_own_leaves_changed) refl;
  own_leaves_third = simp (listed_own_leaves_changed, listed_own_leaves_last, found_own_leaves_changed, found_own_leaves_last) refl;
  one_leaf_first = simp (listed_one_leaf, none_listed, found_one_leaf, get-empty {X = ℕ} nat_cmp) refl;
  one_leaf_second = simp (listed_one_leaf, listed_one_leaf_changed, found_one_leaf, found_one_leaf_changed) refl;
  one_leaf_third = simp (listed_one_leaf_changed, listed_one_leaf_last, found_one_leaf_changed, found_one_leaf_last) refl;
}
