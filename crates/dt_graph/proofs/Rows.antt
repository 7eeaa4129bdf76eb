-- Rows of a class graph against what they stand for. Row i, from the front, of rows from class k is that of class q.
use Rattle.std.proofs.Common.{◌≡◌, ◌==◌, ℕ, zero, suc, ◌+◌, ◌<◌, false, cond, List, [], ◌∷◌, ◌++◌, length, get_or, refl, sym, ap, ◌∙◌, eq-eqb, ne_eqb, arith, append-nil, replicate}
use Rattle.std.proofs.lemmas.Bool.Decides.{nat_tests}
use Rattle.dt_graph.specs.Graph.{Graph, empty_graph, has_number, is_live}
use Rattle.dt_graph.specs.GraphRows.{live_from, links_to, links_from, graph_of}
use Rattle.dt_graph.specs.Parents.{parents_of}
use Rattle.dt_graph.specs.declared.class_rows.Row.{Row}
use Rattle.dt_graph.proofs.ParentLists.{parents_of-append}

-- a class before the first row isn't live
pub live_from-before : (rows : List Row) (k q : ℕ) → q < k → has_number (live_from k rows) q ≡ false
live_from-before [] k q before = refl
live_from-before (row ∷ rows) k q before =
    let rest = live_from-before rows (k + 1) q (omega arith) in grind (arith, nat_tests)

-- a class is live where its row says so
pub live_from-at : (rows : List Row) (k i q : ℕ) (d : Row) → q ≡ k + i → i < length rows → has_number (live_from k rows) q ≡ (get_or rows i d).is_live
live_from-at [] k i q d at inside = absurd (omega arith)
live_from-at (row ∷ rows) k zero q d at inside =
    let rest = live_from-before rows (k + 1) q (omega arith) in grind (arith, nat_tests)
live_from-at (row ∷ rows) k (suc i) q d at inside =
    let rest = live_from-at rows (k + 1) i q d (omega arith) (omega arith) in grind (arith, nat_tests)

-- the links of a class to these parents list them, and those of other classes list none
pub parents_of-links_to : (class : ℕ) (parents : List ℕ) (q : ℕ) → parents_of (links_to class parents) q ≡ cond (class == q) parents []
parents_of-links_to class [] q = grind arith
parents_of-links_to class (parent ∷ parents) q = let rest = parents_of-links_to class parents q in grind arith

-- a class before the first row has no parents
pub links_from-before : (rows : List Row) (k q : ℕ) → q < k → parents_of (links_from k rows) q ≡ []
links_from-before [] k q before = refl
links_from-before (row ∷ rows) k q before =
    parents_of-append (links_to k row.parents.items) (links_from (k + 1) rows) q
    ∙ (rw (parents_of-links_to k row.parents.items q, ne_eqb k q (omega arith)) (links_from-before rows (k + 1) q (omega arith)))

-- a class has the parents of its row
pub links_from-at : (rows : List Row) (k i q : ℕ) (d : Row) → q ≡ k + i → i < length rows → parents_of (links_from k rows) q ≡ (get_or rows i d).parents.items
links_from-at [] k i q d at inside = absurd (omega arith)
links_from-at (row ∷ rows) k zero q d at inside =
    parents_of-append (links_to k row.parents.items) (links_from (k + 1) rows) q
    ∙ (rw (parents_of-links_to k row.parents.items q, eq-eqb k q (omega arith), links_from-before rows (k + 1) q (omega arith)) (append-nil row.parents.items))
links_from-at (row ∷ rows) k (suc i) q d at inside =
    parents_of-append (links_to k row.parents.items) (links_from (k + 1) rows) q
    ∙ (rw (parents_of-links_to k row.parents.items q, ne_eqb k q (omega arith)) (links_from-at rows (k + 1) i q d (omega arith) (omega arith)))

-- what a row that was read says of the graph
pub live_of-read : (graph : Graph) (rows : List Row) (row : Row) (n q : ℕ) → graph_of rows ≡ graph → n ≡ q → n < length rows → row ≡ get_or rows n row → row.is_live ≡ is_live graph q
live_of-read graph rows row n q shown same inside read =
    ap (λ (r : Row). r.is_live) read
    ∙ sym (live_from-at rows 0 n q row (omega arith) inside)
    ∙ ap (λ (g : Graph). is_live g q) shown

pub parents_of-read : (graph : Graph) (rows : List Row) (row : Row) (n q : ℕ) → graph_of rows ≡ graph → n ≡ q → n < length rows → row ≡ get_or rows n row → row.parents.items ≡ parents_of graph.links q
parents_of-read graph rows row n q shown same inside read =
    ap (λ (r : Row). r.parents.items) read
    ∙ sym (links_from-at rows 0 n q row (omega arith) inside)
    ∙ ap (λ (g : Graph). parents_of g.links q) shown

-- rows with nothing in them
pub no_live-replicate : (n k : ℕ) (row : Row) → row.is_live ≡ false → live_from k (replicate n row) ≡ []
no_live-replicate zero k row none = refl
no_live-replicate (suc n) k row none = let rest = no_live-replicate n (k + 1) row none in grind arith

pub no_links-replicate : (n k : ℕ) (row : Row) → row.parents.items ≡ [] → links_from k (replicate n row) ≡ []
no_links-replicate zero k row none = refl
no_links-replicate (suc n) k row none =
    ap (λ ps. links_to k ps ++ links_from (k + 1) (replicate n row)) none ∙ no_links-replicate n (k + 1) row none

-- they stand for the empty graph
pub graph_of-replicate : (n : ℕ) (row : Row) → row.is_live ≡ false → row.parents.items ≡ [] → graph_of (replicate n row) ≡ empty_graph
graph_of-replicate n row not_live none = rw (no_live-replicate n 0 row not_live, no_links-replicate n 0 row none) refl
