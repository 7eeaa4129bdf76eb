use Rattle.std.proofs.Common.{ℕ, zero, suc, All, subst, [], ◌∷◌, refl, sym, arith}
use Rattle.std.specs.FinMap.{from_sorted, entries-from_sorted, get-empty}
use Rattle.std.specs.Ordering.{nat_cmp}
use Rattle.dt_pages.specs.Image.{IsImage}
use Rattle.dt_pages.proofs.Addresses.{IsSet}
use Rattle.dt_pages.proofs.ThreeWords.{three, listed, found, listed_changed, found_changed, none_listed}
use Rattle.dt_pages.proofs.SixPages.{shown, only_six}
use Rattle.dt_pages.proofs.six_pages_show_three_words.Goals as goal

each : All IsSet three
each zero d below = (omega arith, omega arith)
each (suc zero) d below = (omega arith, omega arith)
each (suc (suc zero)) d below = (omega arith, omega arith)
each (suc (suc (suc k))) d below = absurd (omega arith)

at_the_last : All IsSet ((134217727, 1) ∷ [])
at_the_last zero d below = (omega arith, omega arith)
at_the_last (suc k) d below = absurd (omega arith)

-- an image of one word has it in range and other than 0
one_word : (address word : ℕ) → IsImage (from_sorted ((address, word) ∷ [])) → IsSet (address, word)
one_word address word is =
    subst (All IsSet) (entries-from_sorted nat_cmp ((address, word) ∷ []) tt) is 0 (address, word) (omega arith)

pub returns : goal.returns
returns c = record {
  is_an_image = subst (All IsSet) (sym listed) each;
  has_six_nodes = rw listed refl;
  all_are_new = simp (listed, none_listed, found, get-empty {X = ℕ} nat_cmp) refl;
  none_is_new = simp (listed, found) refl;
  one_of_each_level = simp (listed, listed_changed, found, found_changed) refl;
  none_where_words_go = simp none_listed refl;
  they_show_it = shown;
  past_the_last_address = refl;
  a_word_of_0_is_not_set = λ is. (one_word 0 0 is).1 refl;
  the_last_address_may_be_set = subst (All IsSet) (sym (entries-from_sorted nat_cmp ((134217727, 1) ∷ []) tt)) at_the_last;
  nothing_is_set_past_the_last_address = λ is. absurd (omega (arith, (one_word 134217728 1 is).0));
  no_other_is_reached = only_six;
}
