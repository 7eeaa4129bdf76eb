-- The numbers of what is live in a lawful program are in range.
use Rattle.std.proofs.Common.{◌≡◌, ℕ, ◌<◌, ◌==◌, ◌||◌, true, List, [], ◌∷◌, sym, ap, ◌∙◌, subst, eqb-true, true≢false}
use Rattle.std.specs.Prelude.{None, Some}
use Rattle.std.specs.List.{AllByRecursion}
use Rattle.std.proofs.lemmas.List.Elements.{recursion_from_All}
use Rattle.dt_selectors.specs.Selectors.{Selector, arity_in}
use Rattle.dt_selectors.specs.Lawful.{LawfulSelector, LawfulSelectors}
use Rattle.std.specs.List.{list_any}
use Rattle.dt_graph.specs.Graph.{is_live}
use Rattle.dt_definitions.specs.Program.{Program, arity_of}
use Rattle.dt_definitions.specs.Lawful.{Lawful}
use Rattle.dt_cells.specs.HeldLaws.{by_cases}

found_in_range : (selectors : List Selector) (s n : ℕ) → AllByRecursion LawfulSelector selectors → arity_in selectors s ≡ Some n → (s < 4096) × (0 < n)
found_in_range [] s n all e = absurd (let f : None ≡ Some n = e in cc)
found_in_range (x ∷ xs) s n all e = by_cases (x.number == s)
    (λ t. let is : x.number ≡ s = eqb-true x.number s t in
    let f : Some x.arity ≡ Some n = rw t at e in
    let arity : x.arity ≡ n = cc in
    (subst (λ v. v < 4096) is all.0.0, subst (λ v. 0 < v) arity all.0.1))
    (λ f. found_in_range xs s n all.1 (rw f at e))

pub selectors_in_range : (selectors : List Selector) → LawfulSelectors selectors → (s n : ℕ) → arity_in selectors s ≡ Some n → (s < 4096) × (0 < n)
selectors_in_range selectors lawful s n e = found_in_range selectors s n (recursion_from_All LawfulSelector selectors lawful.in_range) e

class_in_range : (classes : List ℕ) (class : ℕ) → AllByRecursion (λ c. c < 2048) classes → list_any (λ n. n == class) classes ≡ true → class < 2048
class_in_range [] class all e = absurd (true≢false (sym e))
class_in_range (c ∷ cs) class all e = by_cases (c == class)
    (λ t. let is : c ≡ class = eqb-true c class t in subst (λ v. v < 2048) is all.0)
    (λ f. class_in_range cs class all.1 (ap (λ b. b || list_any (λ n. n == class) cs) (sym f) ∙ e))

-- the numbers of what is live are in their ranges
pub record IsWithinLimits (p : Program) : Type 0 where
  pub classes : (class : ℕ) → is_live p.graph class ≡ true → class < 2048
  pub selectors : (s n : ℕ) → arity_of p s ≡ Some n → (s < 4096) × (0 < n)

pub within_limits : (p : Program) → Lawful p → IsWithinLimits p
within_limits p lawful = record {
  classes = λ class live. class_in_range p.graph.classes class (recursion_from_All (λ c. c < 2048) p.graph.classes lawful.graph.classes_in_range) live;
  selectors = λ s n e. selectors_in_range p.selectors lawful.selectors s n e;
}
