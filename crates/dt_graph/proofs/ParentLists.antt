-- The list of a class's parents against its links.
use Rattle.std.proofs.Common.{◌≡◌, ◌==◌, ℕ, ◌+◌, cond, List, [], ◌∷◌, ◌++◌, length, refl, arith}
use Rattle.std.proofs.lemmas.List.Sums.{sum_by-cons}
use Rattle.dt_graph.specs.Graph.{Link, has_number, has_link, parent_count}
use Rattle.dt_graph.specs.Parents.{parents_of}

-- a link leads to exactly the listed parents
pub has_link_listed : (links : List Link) (class parent : ℕ) → has_link links class parent ≡ has_number (parents_of links class) parent
has_link_listed [] class parent = refl
has_link_listed (link ∷ links) class parent = let h = has_link_listed links class parent in grind arith

-- one link more in front
pub parent_count-cons : (link : Link) (links : List Link) (class : ℕ) → parent_count (link ∷ links) class ≡ cond (link.class == class) 1 0 + parent_count links class
parent_count-cons link links class = sum_by-cons (λ l. cond (l.class == class) 1 0) link links

-- there are as many parents as are listed
pub parent_count_listed : (links : List Link) (class : ℕ) → parent_count links class ≡ length (parents_of links class)
parent_count_listed [] class = refl
parent_count_listed (link ∷ links) class =
    let one = parent_count-cons link links class in let rest = parent_count_listed links class in grind arith

pub parents_of-append : (first second : List Link) (class : ℕ) → parents_of (first ++ second) class ≡ parents_of first class ++ parents_of second class
parents_of-append [] second class = refl
parents_of-append (link ∷ first) second class = let h = parents_of-append first second class in grind arith
