-- A change of one row changes the graph that the rows stand for as the change of a graph says.
use Rattle.std.proofs.Common.{◌≡◌, ◌==◌, ℕ, ◌<◌, true, false, not, List, [], length, get_or, set, filter, None, refl, sym, ap, subst, ◌∙◌, arith, length-set}
use Rattle.dt_graph.specs.Graph.{Graph, insert_number}
use Rattle.dt_graph.specs.GraphRows.{graph_of, insert_numbers, LawfulRows}
use Rattle.dt_graph.specs.Lawful.{LawfulGraph}
use Rattle.dt_graph.specs.GraphChange.{add_cause, add_effect, drop_cause, drop_effect, link_cause, link_effect, unlink_effect}
use Rattle.dt_graph.specs.declared.limits.TheConstants.{CLASSES}
use Rattle.dt_graph.specs.declared.class_rows.Row.{Row}
use Rattle.dt_graph.proofs.Rows.{links_from-at}
use Rattle.dt_graph.proofs.RowChanges.{live_from-same, live_from-placed, live_from-dropped, links_from-placed, links_from-filled, links_from-dropped, links_from-removed}
use Rattle.dt_graph.proofs.LawfulChanges.{joins_live, no_parents, may_be_added, add_keeps, drop_keeps, link_keeps, unlink_keeps}

-- row n of the rows is the class's
pub record IsRowOf (graph : Graph) (rows : List Row) (n class : ℕ) : Type 0 where
  pub shown : graph_of rows ≡ graph
  pub same : n ≡ class
  pub inside : n < length rows

-- the row at the class's number
pub row_at : (graph : Graph) (rows : List Row) (n class : ℕ) → graph_of rows ≡ graph → LawfulRows rows → n ≡ class → n < CLASSES → IsRowOf graph rows n class
row_at graph rows n class shown lawful same low = record { shown = shown; same = same; inside = omega (arith, lawful.count) }

-- rows after a change that keeps a graph lawful
changed : (graph new : Graph) (rows : List Row) (n class : ℕ) (row : Row) → IsRowOf graph rows n class → LawfulRows rows → graph_of (set rows n row) ≡ new → (class < CLASSES → LawfulGraph graph → LawfulGraph new) → LawfulRows (set rows n row)
changed graph new rows n class row at old shown keeps = record {
  count = length-set rows n row ∙ old.count;
  lawful = subst LawfulGraph (sym shown) (keeps (omega (arith, at.same, at.inside, old.count)) (subst LawfulGraph at.shown old.lawful));
}

-- ---- a class is added

pub inserted : (graph : Graph) (rows : List Row) (n class : ℕ) (parents : List ℕ) (row : Row) → IsRowOf graph rows n class → LawfulRows rows → add_cause graph class parents ≡ None → row.is_live ≡ true → row.parents.items ≡ insert_numbers parents [] → graph_of (set rows n row) ≡ add_effect graph class parents
inserted graph rows n class parents row at old none live filled =
    let none' : add_cause (graph_of rows) class parents ≡ None = ap (λ g. add_cause g class parents) at.shown ∙ none in
    let not_live = (may_be_added (graph_of rows) class parents none').new in
    let no_links : (get_or rows n row).parents.items ≡ [] = sym (links_from-at rows 0 n class row (omega arith) at.inside) ∙ no_parents (graph_of rows) class (joins_live (graph_of rows) old.lawful) not_live in
    rw (live_from-placed rows 0 n class row (omega arith) at.inside live, links_from-filled rows n parents row row at.inside no_links filled, at.same) refl
    ∙ ap (λ g. add_effect g class parents) at.shown

pub inserted_lawful : (graph : Graph) (rows : List Row) (n class : ℕ) (parents : List ℕ) (row : Row) → IsRowOf graph rows n class → LawfulRows rows → add_cause graph class parents ≡ None → row.is_live ≡ true → row.parents.items ≡ insert_numbers parents [] → LawfulRows (set rows n row)
inserted_lawful graph rows n class parents row at old none live filled =
    changed graph (add_effect graph class parents) rows n class row at old (inserted graph rows n class parents row at old none live filled)
    (λ in_range lawful. add_keeps graph class parents lawful in_range none)

-- ---- a class is dropped

pub dropped : (graph : Graph) (rows : List Row) (n class : ℕ) (row : Row) → IsRowOf graph rows n class → row.is_live ≡ false → row.parents.items ≡ [] → graph_of (set rows n row) ≡ drop_effect graph class
dropped graph rows n class row at not_live none =
    rw (live_from-dropped rows 0 n class row (omega arith) at.inside not_live, links_from-dropped rows 0 n class row (omega arith) at.inside none) refl
    ∙ ap (λ g. drop_effect g class) at.shown

pub dropped_lawful : (graph : Graph) (rows : List Row) (n class : ℕ) (row : Row) → IsRowOf graph rows n class → LawfulRows rows → drop_cause graph class ≡ None → row.is_live ≡ false → row.parents.items ≡ [] → LawfulRows (set rows n row)
dropped_lawful graph rows n class row at old allowed not_live none =
    changed graph (drop_effect graph class) rows n class row at old (dropped graph rows n class row at not_live none)
    (λ _ lawful. drop_keeps graph class lawful allowed)

-- ---- a link is made

pub linked : (graph : Graph) (rows : List Row) (n class parent : ℕ) (row d : Row) → IsRowOf graph rows n class → row.is_live ≡ (get_or rows n d).is_live → row.parents.items ≡ insert_number parent (get_or rows n d).parents.items → graph_of (set rows n row) ≡ link_effect graph class parent
linked graph rows n class parent row d at same placed =
    rw (live_from-same rows 0 n row d same at.inside, links_from-placed rows 0 n class parent row d (omega arith) at.inside placed) refl
    ∙ ap (λ g. link_effect g class parent) at.shown

pub linked_lawful : (graph : Graph) (rows : List Row) (n class parent : ℕ) (row d : Row) → IsRowOf graph rows n class → LawfulRows rows → link_cause graph class parent ≡ None → row.is_live ≡ (get_or rows n d).is_live → row.parents.items ≡ insert_number parent (get_or rows n d).parents.items → LawfulRows (set rows n row)
linked_lawful graph rows n class parent row d at old allowed same placed =
    changed graph (link_effect graph class parent) rows n class row at old (linked graph rows n class parent row d at same placed)
    (λ _ lawful. link_keeps graph class parent lawful allowed)

-- ---- a link is taken away

pub unlinked : (graph : Graph) (rows : List Row) (n class parent : ℕ) (row d : Row) → IsRowOf graph rows n class → row.is_live ≡ (get_or rows n d).is_live → row.parents.items ≡ filter (λ p. not (p == parent)) (get_or rows n d).parents.items → graph_of (set rows n row) ≡ unlink_effect graph class parent
unlinked graph rows n class parent row d at same fewer =
    rw (live_from-same rows 0 n row d same at.inside, links_from-removed rows 0 n class parent row d (omega arith) at.inside fewer) refl
    ∙ ap (λ g. unlink_effect g class parent) at.shown

pub unlinked_lawful : (graph : Graph) (rows : List Row) (n class parent : ℕ) (row d : Row) → IsRowOf graph rows n class → LawfulRows rows → row.is_live ≡ (get_or rows n d).is_live → row.parents.items ≡ filter (λ p. not (p == parent)) (get_or rows n d).parents.items → LawfulRows (set rows n row)
unlinked_lawful graph rows n class parent row d at old same fewer =
    changed graph (unlink_effect graph class parent) rows n class row at old (unlinked graph rows n class parent row d at same fewer)
    (λ _ lawful. unlink_keeps graph class parent lawful)
