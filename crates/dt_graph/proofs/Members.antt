-- Ascending lists of numbers by what stands in them: when one is no longer than another, when it is shorter, and how many
-- numbers there are when one comes or goes.
use Rattle.std.proofs.Common.{◌≡◌, ◌==◌, ◌≢◌, ℕ, ◌+◌, ◌<◌, ◌≤◌, false, not, ◌&&◌, IsTrue, List, [], ◌∷◌, length, refl, sym, ap, ◌∙◌, ⊎_elim, eq-eqb, ltb-true, arith}
use Rattle.std.proofs.lemmas.Bool.{or_left, or_right, and_right, false≢true, cases_eq}
use Rattle.std.proofs.lemmas.Bool.Decides.{nat_tests}
use Rattle.dt_graph.specs.Graph.{has_number, insert_number}
use Rattle.dt_graph.specs.Lawful.{AscendingNumbers}
use Rattle.dt_graph.proofs.LinkLists.{has_number-placed}
use Rattle.dt_graph.proofs.Ascending.{AscendingNumbers-placed, first_is_lowest, first_is_least}
use Rattle.dt_graph.proofs.AscendingSets.{ascending_tail, same_numbers}

-- what stands in the first list stands in the second
abbrev pub NumbersIn : List ℕ → List ℕ → Type 0
NumbersIn numbers more = (n : ℕ) → IsTrue (has_number numbers n) → IsTrue (has_number more n)

pub has_first : (x : ℕ) (numbers : List ℕ) → IsTrue (has_number (x ∷ numbers) x)
has_first x numbers = or_left (x == x) (has_number numbers x) (eq-eqb x x refl)

pub has_later : (x : ℕ) (numbers : List ℕ) (n : ℕ) → IsTrue (has_number numbers n) → IsTrue (has_number (x ∷ numbers) n)
has_later x numbers n listed = or_right (x == n) (has_number numbers n) listed

-- another number than the first stands later
pub is_later : (x : ℕ) (numbers : List ℕ) (n : ℕ) → IsTrue (has_number (x ∷ numbers) n) → x ≢ n → IsTrue (has_number numbers n)
is_later x numbers n listed apart = grind (arith, nat_tests)

-- the rest of a list stands in the rest of another that begins with the same number
rest_in : (x y : ℕ) (numbers more : List ℕ) → x ≡ y → AscendingNumbers (x ∷ numbers) → NumbersIn (x ∷ numbers) (y ∷ more) → NumbersIn numbers more
rest_in x y numbers more same ascending inside n listed =
    let above = first_is_lowest x numbers ascending n listed in let there = inside n in grind (arith, nat_tests)

-- a list whose first number comes later in another stands in its rest
all_in_rest : (x y : ℕ) (numbers more : List ℕ) → x ≢ y → AscendingNumbers (x ∷ numbers) → AscendingNumbers (y ∷ more) → NumbersIn (x ∷ numbers) (y ∷ more) → NumbersIn (x ∷ numbers) more
all_in_rest x y numbers more apart ascending ascending' inside n listed =
    let first = first_is_lowest y more ascending' x (is_later y more x (inside x (has_first x numbers)) (λ at. apart (sym at))) in
    let least = first_is_least x numbers ascending n listed in
    is_later y more n (inside n listed) (λ at. omega arith)

-- ---- no longer, and shorter

pub not_longer : (numbers more : List ℕ) → AscendingNumbers numbers → AscendingNumbers more → NumbersIn numbers more → length numbers ≤ length more
not_longer [] more ascending ascending' inside = omega arith
not_longer (x ∷ numbers) [] ascending ascending' inside = absurd (false≢true (inside x (has_first x numbers)))
not_longer (x ∷ numbers) (y ∷ more) ascending ascending' inside = ⊎_elim
    (λ same. let rest = not_longer numbers more (ascending_tail x numbers ascending) (ascending_tail y more ascending') (rest_in x y numbers more same ascending inside) in omega arith)
    (λ apart. let rest = not_longer (x ∷ numbers) more ascending (ascending_tail y more ascending') (all_in_rest x y numbers more apart ascending ascending' inside) in omega arith)
    (cases_eq x y)

pub shorter : (numbers more : List ℕ) (n : ℕ) → AscendingNumbers numbers → AscendingNumbers more → NumbersIn numbers more → IsTrue (has_number more n) → has_number numbers n ≡ false → length numbers < length more
shorter numbers [] n ascending ascending' inside listed absent = absurd (false≢true listed)
shorter [] (y ∷ more) n ascending ascending' inside listed absent = omega arith
shorter (x ∷ numbers) (y ∷ more) n ascending ascending' inside listed absent = ⊎_elim
    (λ same.
    let rest = shorter numbers more n (ascending_tail x numbers ascending) (ascending_tail y more ascending') (rest_in x y numbers more same ascending inside) in grind (arith, nat_tests))
    (λ apart. let rest = not_longer (x ∷ numbers) more ascending (ascending_tail y more ascending') (all_in_rest x y numbers more apart ascending ascending' inside) in omega arith)
    (cases_eq x y)

-- ---- how many numbers a set has when one comes or goes, and that they are no more than the limit

-- one that wasn't there is one more
pub size_placed : (new : ℕ) (numbers : List ℕ) → has_number numbers new ≡ false → length (insert_number new numbers) ≡ length numbers + 1
size_placed new [] none = refl
size_placed new (n ∷ numbers) none = let h = size_placed new numbers in grind (arith, nat_tests)

-- without one that was there it is one less
pub size_removed : (gone : ℕ) (old new : List ℕ) → AscendingNumbers old → AscendingNumbers new → IsTrue (has_number old gone)
    → ((n : ℕ) → has_number new n ≡ (has_number old n && not (n == gone))) → length old ≡ length new + 1
size_removed gone old new ascends ascends' listed each =
    let none : has_number new gone ≡ false =
    each gone ∙ and_right (has_number old gone) (not (gone == gone)) (ap not (eq-eqb gone gone refl)) in
    let back : insert_number gone new ≡ old =
    same_numbers (insert_number gone new) old (AscendingNumbers-placed gone new ascends') ascends (λ n.
    let placed = has_number-placed gone new n in let at = each n in grind (arith, nat_tests)) in
    ap length (sym back) ∙ size_placed gone new none

fits_from : (limit a : ℕ) (numbers : List ℕ) → AscendingNumbers (a ∷ numbers) → ((n : ℕ) → IsTrue (has_number (a ∷ numbers) n) → n < limit) → a + length (a ∷ numbers) ≤ limit
fits_from limit a [] ascending inside =
    let low = inside a (or_left (a == a) false (eq-eqb a a refl)) in omega arith
fits_from limit a (b ∷ numbers) ascending inside =
    let order = ltb-true a b ascending.0 in
    let rest = fits_from limit b numbers ascending.1 (λ n listed. inside n (or_right (a == n) (has_number (b ∷ numbers) n) listed)) in omega arith

-- numbers below a limit, each once, are no more than the limit
pub size_fits : (limit : ℕ) (numbers : List ℕ) → AscendingNumbers numbers → ((n : ℕ) → IsTrue (has_number numbers n) → n < limit) → length numbers ≤ limit
size_fits limit [] ascending inside = omega arith
size_fits limit (a ∷ numbers) ascending inside =
    let more = fits_from limit a numbers ascending inside in omega arith
