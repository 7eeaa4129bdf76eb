-- The live classes as those of all numbers that pass a test.
use Rattle.std.proofs.Common.{◌≡◌, ℕ, ◌+◌, ◌<◌, Bool, IsTrue, List, [], ◌∷◌, ◌++◌, filter, refl, sym, ap, ◌∙◌, arith}
use Rattle.std.proofs.lemmas.List.Elements.{filter-append}
use Rattle.std.specs.List.{range_with_len}
use Rattle.dt_graph.specs.Graph.{Graph, has_number, is_live}
use Rattle.dt_graph.specs.Lawful.{AscendingNumbers, LawfulGraph}
use Rattle.dt_graph.specs.declared.limits.TheConstants.{CLASSES}
use Rattle.dt_graph.proofs.LinkLists.{each_number, has_number-filtered}
use Rattle.dt_graph.proofs.Ascending.{AscendingNumbers-filter}
use Rattle.dt_graph.proofs.AscendingSets.{same_numbers}
use Rattle.dt_graph.proofs.ClassBits.{AscendingNumbers-range, has_number-range, range-split}

-- one number more
pub passing_more : (test : ℕ → Bool) (items items' : List ℕ) (n : ℕ) → items ≡ filter test (range_with_len 0 n) → items' ≡ items ++ filter test (n ∷ []) → items' ≡ filter test (range_with_len 0 (n + 1))
passing_more test items items' n known more =
    more ∙ ap (λ ns. ns ++ filter test (n ∷ [])) known
    ∙ sym (filter-append test (range_with_len 0 n) (n ∷ []))
    ∙ (let e : n ≡ 0 + n = omega arith in ap (λ m. filter test (range_with_len 0 n ++ m ∷ [])) e)
    ∙ ap (filter test) (sym (range-split 0 n 1 (n + 1) refl))

-- an ascending list is the numbers below a limit that stand in it
pub all_passing : (test : ℕ → Bool) (numbers : List ℕ) (limit : ℕ) → AscendingNumbers numbers → ((n : ℕ) → has_number numbers n ≡ test n) → ((n : ℕ) → IsTrue (test n) → n < limit) → filter test (range_with_len 0 limit) ≡ numbers
all_passing test numbers limit ascending listed in_range =
    same_numbers (filter test (range_with_len 0 limit)) numbers
    (AscendingNumbers-filter test (range_with_len 0 limit) (AscendingNumbers-range 0 limit)) ascending
    (λ n.
    let told = has_number-filtered test (range_with_len 0 limit) n in
    let at = listed n in
    let low = in_range n in
    let there = has_number-range 0 limit n (omega arith) in grind arith)

pub all_live : (g : Graph) → LawfulGraph g → filter (is_live g) (range_with_len 0 CLASSES) ≡ g.classes
all_live g lawful =
    all_passing (is_live g) g.classes CLASSES lawful.classes_ascend (λ n. refl) (each_number (λ m. m < CLASSES) g.classes lawful.classes_in_range)
