-- The live classes at or below a class, as an ascending list of all classes at or below it.
use Rattle.std.proofs.Common.{◌≡◌, ℕ, ◌<◌, Bool, false, IsTrue, List, [], ◌∷◌, sym, subst, ◌∙◌, All, arith, ◌⊎◌, inl, inr, ⊎_elim}
use Rattle.dt_graph.specs.Graph.{Graph, has_number, is_live}
use Rattle.dt_graph.specs.Below.{Leads, is_below}
use Rattle.dt_graph.specs.Lawful.{AscendingNumbers, LawfulGraph}
use Rattle.dt_graph.specs.Descendants.{descendants}
use Rattle.dt_graph.specs.declared.limits.TheConstants.{CLASSES}
use Rattle.dt_graph.proofs.Walks.{IsBelow-from_test}
use Rattle.dt_graph.proofs.LinkLists.{each_number}
use Rattle.dt_graph.proofs.LawfulChanges.{joins_live}
use Rattle.dt_graph.proofs.AscendingSets.{nothing_listed, same_truth, same_numbers}
use Rattle.dt_graph.proofs.BelowSets.{both_live}
use Rattle.dt_graph.proofs.ListsOfGraphs.{descendants_listed, descendants_ascend}

-- a class that is below another is that one, or both are live
same_or_live : (g : Graph) → LawfulGraph g → (low high : ℕ) → IsTrue (is_below g.links low high) → (low ≡ high) ⊎ (IsTrue (is_live g low) × IsTrue (is_live g high))
same_or_live g lawful low high test = let way = IsBelow-from_test g.links low high test in go way.0 way.1
  where
    go : (steps : List ℕ) → Leads g.links low steps high → (low ≡ high) ⊎ (IsTrue (is_live g low) × IsTrue (is_live g high))
    go [] leads = inl leads
    go (s ∷ steps) leads =
        let live = (joins_live g lawful low s leads.0).0 in inr (live, sym (both_live g lawful low high test) ∙ live)

-- so both are in range where one is
both_in_range : (g : Graph) → LawfulGraph g → (low high : ℕ) → IsTrue (is_below g.links low high) → (low < CLASSES → high < CLASSES) × (high < CLASSES → low < CLASSES)
both_in_range g lawful low high test = ⊎_elim
    (λ same. (subst (λ n. n < CLASSES) same, subst (λ n. n < CLASSES) (sym same)))
    (λ live. (λ _. in_range high live.1, λ _. in_range low live.0))
    (same_or_live g lawful low high test)
  where
    in_range : (n : ℕ) → IsTrue (is_live g n) → n < CLASSES
    in_range = each_number (λ n. n < CLASSES) g.classes lawful.classes_in_range

-- so a set that agrees with a test on all classes agrees with it on all numbers
agrees_everywhere : (numbers : List ℕ) (test : ℕ → Bool) → All (λ n. n < CLASSES) numbers → ((n : ℕ) → IsTrue (test n) → n < CLASSES) → ((n : ℕ) → n < CLASSES → has_number numbers n ≡ test n) → (n : ℕ) → has_number numbers n ≡ test n
agrees_everywhere numbers test in_range test_in_range shown n = same_truth (has_number numbers n) (test n)
    (λ listed. sym (shown n (each_number (λ m. m < CLASSES) numbers in_range n listed)) ∙ listed)
    (λ holds. shown n (test_in_range n holds) ∙ holds)

pub below_everywhere : (g : Graph) (class : ℕ) (numbers : List ℕ) → LawfulGraph g → class < CLASSES → All (λ n. n < CLASSES) numbers → ((low : ℕ) → low < CLASSES → has_number numbers low ≡ is_below g.links low class) → (low : ℕ) → has_number numbers low ≡ is_below g.links low class
below_everywhere g class numbers lawful inside in_range shown =
    agrees_everywhere numbers (λ low. is_below g.links low class) in_range (λ low test. (both_in_range g lawful low class test).1 inside) shown

pub above_everywhere : (g : Graph) (class : ℕ) (numbers : List ℕ) → LawfulGraph g → class < CLASSES → All (λ n. n < CLASSES) numbers → ((high : ℕ) → high < CLASSES → has_number numbers high ≡ is_below g.links class high) → (high : ℕ) → has_number numbers high ≡ is_below g.links class high
above_everywhere g class numbers lawful inside in_range shown =
    agrees_everywhere numbers (λ high. is_below g.links class high) in_range (λ high test. (both_in_range g lawful class high test).0 inside) shown

-- what a live class is below is live
pub above_live : (g : Graph) → LawfulGraph g → (class high : ℕ) → IsTrue (is_live g class) → IsTrue (is_below g.links class high) → IsTrue (is_live g high)
above_live g lawful class high live test = sym (both_live g lawful class high test) ∙ live

-- the classes at or below a live class are its descendants
pub descendants_shown : (g : Graph) (class : ℕ) (numbers : List ℕ) → LawfulGraph g → IsTrue (is_live g class) → AscendingNumbers numbers → All (λ n. n < CLASSES) numbers → ((low : ℕ) → low < CLASSES → has_number numbers low ≡ is_below g.links low class) → numbers ≡ descendants g class
descendants_shown g class numbers lawful live ascending in_range shown =
    same_numbers numbers (descendants g class) ascending (descendants_ascend g class lawful.classes_ascend) (λ n.
    let told = descendants_listed g class n in
    let at = shown n in
    let listed = each_number (λ m. m < CLASSES) numbers in_range n in
    let low = each_number (λ m. m < CLASSES) g.classes lawful.classes_in_range n in
    let alike = both_live g lawful n class in grind arith)

-- a class that isn't live has none
pub no_descendants : (g : Graph) (class : ℕ) → LawfulGraph g → is_live g class ≡ false → [] ≡ descendants g class
no_descendants g class lawful not_live = sym (nothing_listed (descendants g class) (λ n.
    let told = descendants_listed g class n in
    let alike = both_live g lawful n class in grind arith))
