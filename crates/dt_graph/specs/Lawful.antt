-- What holds of every class graph that changes make, beginning with the empty one.
use Rattle.std.specs.Prelude.{ℕ, ◌<◌, ◌≤◌, IsTrue, nat_lt, List, All}
use Rattle.dt_graph.specs.InOrder.{Ascends}
use Rattle.dt_graph.specs.Graph.{Graph, is_live, AscendingLinks, parent_count}
use Rattle.dt_graph.specs.Below.{HasNoCycle}
use Rattle.dt_graph.specs.declared.limits.TheConstants.{CLASSES, PARENTS}

-- each number is below the next
abbrev pub AscendingNumbers : List ℕ → Type 0
AscendingNumbers numbers = Ascends (λ n. n) nat_lt numbers

-- a lawful class graph: classes and links ascend, so none stands twice; classes are in range; every link joins live
-- classes; no class has more parents than the limit; and no links lead from a class to itself
pub record LawfulGraph (graph : Graph) : Type 0 where
  pub classes_ascend : AscendingNumbers graph.classes
  pub classes_in_range : All (λ class. class < CLASSES) graph.classes
  pub links_ascend : AscendingLinks graph.links
  pub links_join_live : All (λ link. IsTrue (is_live graph link.class) × IsTrue (is_live graph link.parent)) graph.links
  pub few_parents : (class : ℕ) → parent_count graph.links class ≤ PARENTS
  pub no_cycle : HasNoCycle graph.links
