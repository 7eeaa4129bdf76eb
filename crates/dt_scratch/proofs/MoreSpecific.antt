-- More specific is a strict order on lists of classes.
use Rattle.std.proofs.Common.{◌≡◌, ℕ, true, IsTrue, List, [], ◌∷◌, refl, arith}
use Rattle.std.proofs.lemmas.Bool.Decides.{nat_tests}
use Rattle.dt_graph.specs.Graph.{Link}
use Rattle.dt_graph.specs.Below.{is_below}
use Rattle.dt_graph.proofs.SameLists.{same_list-self, same_list_equal}
use Rattle.dt_definitions.specs.Program.{same_classes}
use Rattle.dt_scratch.specs.Resolve.{are_below, is_more_specific_at}
use Rattle.dt_scratch.specs.Among.{IsTransitive}
use Rattle.dt_scratch.proofs.StrictOrder.{IsStrict}

-- where it is transitive it is a strict order of all that have classes
pub more_specific-strict : {T : Type 0} (links : List Link) (classes_of : T → List ℕ) → IsTransitive links →
    IsStrict (λ a b. is_more_specific_at links (classes_of a) (classes_of b))
more_specific-strict links classes_of chains = record {
  irreflexive = λ a. rw (same_list-self (classes_of a)) refl;
  transitive = λ a b c. chains (classes_of a) (classes_of b) (classes_of c);
}

module _ (links : List Link)
    (antisymmetric : (a b : ℕ) → IsTrue (is_below links a b) → IsTrue (is_below links b a) → a ≡ b)
    (transitive : (a b c : ℕ) → IsTrue (is_below links a b) → IsTrue (is_below links b c) → IsTrue (is_below links a c)) where
  are_below-trans : (xs ys zs : List ℕ) → are_below links xs ys ≡ true → are_below links ys zs ≡ true →
      are_below links xs zs ≡ true
  are_below-trans [] [] zs e f = f
  are_below-trans (x ∷ xs) (y ∷ ys) (z ∷ zs) e f =
      let first = transitive x y z in let rest = are_below-trans xs ys zs in grind arith
  are_below-trans xs ys zs e f = absurd (cc)

  are_below-antisym : (xs ys : List ℕ) → are_below links xs ys ≡ true → are_below links ys xs ≡ true →
      same_classes xs ys ≡ true
  are_below-antisym (x ∷ xs) (y ∷ ys) e f =
      let first = antisymmetric x y in let rest = are_below-antisym xs ys in grind (arith, nat_tests)
  are_below-antisym xs ys e f = e

  -- more specific is transitive
  pub is_more_specific-transitive : IsTransitive links
  is_more_specific-transitive xs ys zs e f =
      let below = are_below-trans xs ys zs in
      let one = are_below-antisym xs ys in
      let same = same_list_equal xs zs in grind arith
