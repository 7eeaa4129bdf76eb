-- What the lists made from a graph tell of it, and in which order: parents, and the lowest subclass.
use Rattle.std.proofs.Common.{◌≡◌, ◌==◌, ℕ, ◌≤◌, false, ◌&&◌, IsTrue, List, [], ◌∷◌, Option, None, Some, sym, subst, eqb-true, nat_lt, arith, All}
use Rattle.std.proofs.lemmas.Bool.Decides.{nat_tests}
use Rattle.std.proofs.lemmas.List.Elements.{All-nil, All-cons, All-head, All-tail}
use Rattle.dt_graph.specs.Graph.{Link, Graph, has_number, is_live, has_link, is_link_before, AscendingLinks}
use Rattle.dt_graph.specs.Parents.{parents_of}
use Rattle.dt_graph.specs.Below.{is_below}
use Rattle.dt_graph.specs.Descendants.{descendants}
use Rattle.dt_graph.specs.Lawful.{AscendingNumbers}
use Rattle.dt_graph.specs.GraphChange.{lowest_subclass}
use Rattle.dt_graph.proofs.ParentLists.{has_link_listed}
use Rattle.dt_graph.proofs.ListMembers.{by_cases}
use Rattle.dt_graph.proofs.Ascending.{AscendingNumbers-cons, AscendingNumbers-filter, LinkBelowAll, link_below_rest, links_tail}
use Rattle.dt_graph.proofs.Subclasses.{IsLowest, lowest_linked}
use Rattle.dt_graph.proofs.LinkLists.{has_number-filtered}

-- ---- parents

pub parents_listed : (links : List Link) (class parent : ℕ) → has_number (parents_of links class) parent ≡ has_link links class parent
parents_listed links class parent = sym (has_link_listed links class parent)

-- the parents of the class in later links are above that in this link of the class
parents_above : (l : Link) (class : ℕ) (links : List Link) → l.class ≡ class → LinkBelowAll l links → All (λ p. IsTrue (nat_lt l.parent p)) (parents_of links class)
parents_above l class [] own after = All-nil (λ p. IsTrue (nat_lt l.parent p))
parents_above l class (m ∷ links) own after =
    let rest = parents_above l class links own (All-tail (λ k. IsTrue (is_link_before l k)) m links after) in
    by_cases (m.class == class)
    (λ e.
    let same = eqb-true m.class class e in
    let before = All-head (λ k. IsTrue (is_link_before l k)) m links after in
    rw e (All-cons (λ p. IsTrue (nat_lt l.parent p)) m.parent (parents_of links class) (grind (arith, nat_tests)) rest))
    (λ e. rw e rest)

pub parents_ascend : (links : List Link) (class : ℕ) → AscendingLinks links → AscendingNumbers (parents_of links class)
parents_ascend [] class ascending = tt
parents_ascend (l ∷ links) class ascending =
    let rest = parents_ascend links class (links_tail l links ascending) in
    by_cases (l.class == class)
    (λ e. rw e (AscendingNumbers-cons l.parent (parents_of links class) (parents_above l class links (eqb-true l.class class e) (link_below_rest l links ascending)) rest))
    (λ e. rw e rest)

-- ---- descendants

pub descendants_listed : (g : Graph) (class low : ℕ) → has_number (descendants g class) low ≡ (is_live g low && is_below g.links low class)
descendants_listed g class low = has_number-filtered (λ n. is_below g.links n class) g.classes low

pub descendants_ascend : (g : Graph) (class : ℕ) → AscendingNumbers g.classes → AscendingNumbers (descendants g class)
descendants_ascend g class ascending = AscendingNumbers-filter (λ n. is_below g.links n class) g.classes ascending

-- ---- the lowest subclass

lowest_told : (links : List Link) (class : ℕ) (told : Option ℕ) → AscendingLinks links → lowest_subclass links class ≡ told → IsLowest (λ n. has_link links n class) told
lowest_told links class told ascending same =
    subst (IsLowest (λ n. has_link links n class)) same (lowest_linked links class ascending)

pub lowest_is_subclass : (links : List Link) (class lowest : ℕ) → AscendingLinks links → lowest_subclass links class ≡ Some lowest
    → IsTrue (has_link links lowest class) × ((low : ℕ) → IsTrue (has_link links low class) → lowest ≤ low)
lowest_is_subclass links class lowest ascending same = lowest_told links class (Some lowest) ascending same

pub no_subclass : (links : List Link) (class low : ℕ) → AscendingLinks links → lowest_subclass links class ≡ None → has_link links low class ≡ false
no_subclass links class low ascending same = lowest_told links class None ascending same low
