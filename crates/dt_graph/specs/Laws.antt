-- Laws of below: in every lawful graph, and between graphs that differ in the links of some classes. And how each change
-- is undone.
use Rattle.std.specs.Prelude.{◌≡◌, ℕ, ◌<◌, false, IsTrue, List, None}
use Rattle.dt_graph.specs.Graph.{Link, Graph, is_live, has_link}
use Rattle.dt_graph.specs.Below.{is_below}
use Rattle.dt_graph.specs.Lawful.{LawfulGraph}
use Rattle.dt_graph.specs.Parents.{parents_of}
use Rattle.dt_graph.specs.GraphChange.{add_cause, add_effect, drop_cause, drop_effect, link_cause, link_effect, unlink_cause, unlink_effect}
use Rattle.dt_graph.specs.declared.limits.TheConstants.{CLASSES}
use Rattle.dt_graph.specs.LinkChanges.{is_below_any, OthersKeepTheirLinks}

-- no two classes are below each other
abbrev pub BelowIsAntisymmetric : Type 0
BelowIsAntisymmetric = (graph : Graph) → LawfulGraph graph → (a b : ℕ) →
    IsTrue (is_below graph.links a b) → IsTrue (is_below graph.links b a) → a ≡ b

-- links join live classes
abbrev pub LinksJoinLive : Type 0
LinksJoinLive = (graph : Graph) → LawfulGraph graph → (class parent : ℕ) →
    IsTrue (has_link graph.links class parent) → IsTrue (is_live graph class) × IsTrue (is_live graph parent)

-- so a class that is below another is live exactly where that is
abbrev pub BelowIsAmongLive : Type 0
BelowIsAmongLive = (graph : Graph) → LawfulGraph graph → (low high : ℕ) →
    IsTrue (is_below graph.links low high) → is_live graph low ≡ is_live graph high

-- where links of some classes change, the same classes are below one of them
abbrev pub SameAreBelowEdited : Type 0
SameAreBelowEdited = (edited : List ℕ) (old new : List Link) → OthersKeepTheirLinks edited old new →
    (class : ℕ) → is_below_any old edited class ≡ is_below_any new edited class

-- and each other class is below the same classes
abbrev pub OthersStayBelow : Type 0
OthersStayBelow = (edited : List ℕ) (old new : List Link) → OthersKeepTheirLinks edited old new →
    (low high : ℕ) → is_below_any old edited low ≡ false → is_below old low high ≡ is_below new low high

-- a class that was added may be dropped, and the graph is the old one
abbrev pub AddingIsUndone : Type 0
AddingIsUndone = (graph : Graph) (class : ℕ) (parents : List ℕ) → LawfulGraph graph → class < CLASSES
    → add_cause graph class parents ≡ None →
    (drop_cause (add_effect graph class parents) class ≡ None)
    × (drop_effect (add_effect graph class parents) class ≡ graph)

-- one that was dropped may be added with the parents that it had
abbrev pub DroppingIsUndone : Type 0
DroppingIsUndone = (graph : Graph) (class : ℕ) → LawfulGraph graph → drop_cause graph class ≡ None →
    (add_cause (drop_effect graph class) class (parents_of graph.links class) ≡ None)
    × (add_effect (drop_effect graph class) class (parents_of graph.links class) ≡ graph)

-- a link that was made may be taken away
abbrev pub LinkingIsUndone : Type 0
LinkingIsUndone = (graph : Graph) (class parent : ℕ) → LawfulGraph graph → link_cause graph class parent ≡ None →
    (unlink_cause (link_effect graph class parent) class parent ≡ None)
    × (unlink_effect (link_effect graph class parent) class parent ≡ graph)

-- and one that was taken away may be made
abbrev pub UnlinkingIsUndone : Type 0
UnlinkingIsUndone = (graph : Graph) (class parent : ℕ) → LawfulGraph graph → unlink_cause graph class parent ≡ None →
    (link_cause (unlink_effect graph class parent) class parent ≡ None)
    × (link_effect (unlink_effect graph class parent) class parent ≡ graph)
