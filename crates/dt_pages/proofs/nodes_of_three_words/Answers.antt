use Rattle.std.proofs.Common.{refl}
use Rattle.dt_pages.proofs.ThreeWords.{listed, found, listed_changed, found_changed, listed_gone, found_gone}
use Rattle.dt_pages.proofs.nodes_of_three_words.Goals as goal

pub returns : goal.returns
returns c = record {
  leaves = rw listed refl;
  middles = rw listed refl;
  top = rw listed refl;
  leaves_and_middles = rw listed refl;
  changed_leaf = simp (listed, listed_changed, found, found_changed) refl;
  other_leaf = simp (listed, listed_changed, found, found_changed) refl;
  changed_leaf_and_middle = simp (listed, listed_changed, found, found_changed) refl;
  a_word_goes = simp (listed, listed_gone, found, found_gone) refl;
  a_word_comes = simp (listed, listed_gone, found, found_gone) refl;
  a_word = simp found refl;
  no_word = simp found refl;
}
