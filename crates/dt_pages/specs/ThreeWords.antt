-- An image of three words and six pages that show it, worked out.
use Rattle.std.specs.Prelude.{true, false, ◌≡◌, ℕ, ◌≤◌, ◌==◌, if◌then◌else◌, ◌&&◌, List, [], ◌∷◌}
use Rattle.std.specs.FinMap.{empty, from_sorted}
use Rattle.dt_pages.specs.Reading.{Pages, addresses, reading, Reaches}
use Rattle.dt_pages.specs.Image.{Image, IsImage, used_places, differs_below, look_up, nodes_up_to, nodes, need_up_to, need}

-- an image with three words
abbrev pub three_words : Image
three_words = from_sorted ((0, 1) ∷ (4096, 1) ∷ (16777216, 4294967298) ∷ [])

-- the image with its last word changed
abbrev pub last_changed : Image
last_changed = from_sorted ((0, 1) ∷ (4096, 1) ∷ (16777216, 5) ∷ [])

-- the pages in which these words are set, each with its page and its place there
abbrev pub pages_with : List (ℕ × ℕ × ℕ) → Pages
pages_with [] page at = 0
pages_with (set ∷ sets) page at = if (set.0 == page) && (set.1 == at) then set.2 else pages_with sets page at

-- six pages that show it, with top page 1
abbrev pub six_pages : Pages
six_pages = pages_with ((1, 0, 2) ∷ (1, 64, 3) ∷ (2, 0, 4) ∷ (2, 8, 5) ∷ (3, 0, 6)
    ∷ (4, 0, 1) ∷ (5, 0, 1) ∷ (6, 0, 4294967298) ∷ [])

-- the image has six nodes, which are all new beside the empty image, and none of them beside itself;
-- a change of its last word needs one page of each level; a node that loses its words needs none;
-- and the pages show the image, and 0 past the last address
pub record SixPages : Type 0 where
  pub is_an_image : IsImage three_words
  pub has_six_nodes : nodes three_words ≡ 6
  pub all_are_new : need empty three_words ≡ 6
  pub none_is_new : need three_words three_words ≡ 0
  pub one_of_each_level : need three_words last_changed ≡ 3
  pub none_where_words_go : need three_words empty ≡ 0
  pub they_show_it : reading six_pages 1 ≡ look_up three_words
  pub past_the_last_address : reading six_pages 1 addresses ≡ 0
  pub a_word_of_0_is_not_set : IsImage (from_sorted ((0, 0) ∷ [])) → ⊥
  pub the_last_address_may_be_set : IsImage (from_sorted ((134217727, 1) ∷ []))
  pub nothing_is_set_past_the_last_address : IsImage (from_sorted ((134217728, 1) ∷ [])) → ⊥
  pub no_other_is_reached : (page : ℕ) → Reaches six_pages 1 page → page ≤ 6

-- the image without its second word
abbrev pub one_gone : Image
one_gone = from_sorted ((0, 1) ∷ (16777216, 4294967298) ∷ [])

-- three leaf pages stand under two middle pages under one top page; the changed word lies in the third leaf;
-- where a word goes, its leaf needs no page, and what is above it does; where it comes again, its leaf needs one too
pub record PlacesOfThreeWords : Type 0 where
  pub leaves : used_places three_words 1 ≡ 0 ∷ 8 ∷ 32768 ∷ []
  pub middles : used_places three_words 2 ≡ 0 ∷ 64 ∷ []
  pub top : used_places three_words 3 ≡ 0 ∷ []
  pub leaves_and_middles : nodes_up_to 2 three_words ≡ 5
  pub changed_leaf : differs_below three_words last_changed 1 32768 ≡ true
  pub other_leaf : differs_below three_words last_changed 1 8 ≡ false
  pub changed_leaf_and_middle : need_up_to 2 three_words last_changed ≡ 2
  pub a_word_goes : need three_words one_gone ≡ 2
  pub a_word_comes : need one_gone three_words ≡ 3
  pub a_word : look_up three_words 4096 ≡ 1
  pub no_word : look_up three_words 4097 ≡ 0
