-- What is known where no cause of a refusal is there.
use Rattle.std.proofs.Common.{◌≡◌, ℕ, Bool, true, false, IsTrue, List, [], ◌∷◌, Option, None, Some, find, option_map, refl, ◌==◌, eqb-true, ap, arith}
use Rattle.std.proofs.lemmas.Bool.{false≢true}
use Rattle.dt_graph.specs.Refusal.{cause_if, first_cause}
use Rattle.dt_graph.specs.Graph.{has_number}

-- a test that comes first doesn't hold
pub no_test : {F : Type 0} (test : Bool) (cause : F) (causes : List (Option F)) → first_cause (cause_if test cause ∷ causes) ≡ None → (test ≡ false) × (first_cause causes ≡ None)
no_test true cause causes none = absurd (cc)
no_test false cause causes none = (refl, none)

-- a cause that comes first isn't there
pub no_found : {F X : Type 0} (cause : X → F) (found : Option X) (causes : List (Option F)) → first_cause (option_map cause found ∷ causes) ≡ None → (found ≡ None) × (first_cause causes ≡ None)
no_found cause None causes none = (refl, none)
no_found cause (Some x) causes none = absurd (cc)

-- where no number passes the test, none of the list does
pub none_passes : (test : ℕ → Bool) (numbers : List ℕ) → find test numbers ≡ None → (n : ℕ) → IsTrue (has_number numbers n) → test n ≡ false
none_passes test [] none n listed = absurd (false≢true listed)
none_passes test (x ∷ numbers) none n listed =
    let rest : find test numbers ≡ None → IsTrue (has_number numbers n) → test n ≡ false = λ later. none_passes test numbers later n in
    let own : IsTrue (x == n) → test x ≡ test n = λ here. ap test (eqb-true x n here) in grind arith
