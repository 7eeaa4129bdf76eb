-- The images of a class with four selectors, each with a method for it; and what each of two later versions needs.
use Rattle.std.specs.Prelude.{◌≡◌, [], ◌∷◌}
use Rattle.std.specs.FinMap.{empty, from_sorted}
use Rattle.dt_pages.specs.Image.{Image, need}

-- the class, the selectors and the cells of one receiver, each selector with a leaf of its own
abbrev pub own_leaves : Image
own_leaves = from_sorted ((0, 1) ∷ (4096, 1) ∷ (4097, 1) ∷ (4098, 1) ∷ (4099, 1)
    ∷ (16777216, 4294967298) ∷ (16779264, 8589934594) ∷ (16781312, 12884901890) ∷ (16783360, 17179869186) ∷ [])

-- all four methods are other ones
abbrev pub own_leaves_changed : Image
own_leaves_changed = from_sorted ((0, 1) ∷ (4096, 1) ∷ (4097, 1) ∷ (4098, 1) ∷ (4099, 1)
    ∷ (16777216, 4294967299) ∷ (16779264, 8589934595) ∷ (16781312, 12884901891) ∷ (16783360, 17179869187) ∷ [])

-- and then the first one again
abbrev pub own_leaves_last : Image
own_leaves_last = from_sorted ((0, 1) ∷ (4096, 1) ∷ (4097, 1) ∷ (4098, 1) ∷ (4099, 1)
    ∷ (16777216, 4294967300) ∷ (16779264, 8589934595) ∷ (16781312, 12884901891) ∷ (16783360, 17179869187) ∷ [])

-- the same with displaced rows, whose cells lie in one leaf of the master array
abbrev pub one_leaf : Image
one_leaf = from_sorted ((0, 1) ∷ (4096, 1) ∷ (4097, 1) ∷ (4098, 1) ∷ (4099, 1) ∷ (8192, 1) ∷ (8193, 2) ∷ (8194, 3) ∷ (8195, 4)
    ∷ (67108864, 4294967298) ∷ (67108865, 8589934594) ∷ (67108866, 12884901890) ∷ (67108867, 17179869186) ∷ [])

abbrev pub one_leaf_changed : Image
one_leaf_changed = from_sorted ((0, 1) ∷ (4096, 1) ∷ (4097, 1) ∷ (4098, 1) ∷ (4099, 1) ∷ (8192, 1) ∷ (8193, 2) ∷ (8194, 3) ∷ (8195, 4)
    ∷ (67108864, 4294967299) ∷ (67108865, 8589934595) ∷ (67108866, 12884901891) ∷ (67108867, 17179869187) ∷ [])

abbrev pub one_leaf_last : Image
one_leaf_last = from_sorted ((0, 1) ∷ (4096, 1) ∷ (4097, 1) ∷ (4098, 1) ∷ (4099, 1) ∷ (8192, 1) ∷ (8193, 2) ∷ (8194, 3) ∷ (8195, 4)
    ∷ (67108864, 4294967300) ∷ (67108865, 8589934595) ∷ (67108866, 12884901891) ∷ (67108867, 17179869187) ∷ [])

-- the top, two middle nodes and six leaves, or four; then the leaves with their cells and the two nodes above them; then
-- one of these
pub record NeedsOfFourSelectors : Type 0 where
  pub own_leaves_first : need empty own_leaves ≡ 9
  pub own_leaves_second : need own_leaves own_leaves_changed ≡ 6
  pub own_leaves_third : need own_leaves_changed own_leaves_last ≡ 3
  pub one_leaf_first : need empty one_leaf ≡ 7
  pub one_leaf_second : need one_leaf one_leaf_changed ≡ 3
  pub one_leaf_third : need one_leaf_changed one_leaf_last ≡ 3
