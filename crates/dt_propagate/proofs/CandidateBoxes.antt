-- The candidates of a program, as what the boxes of its definitions hold.
use Rattle.std.proofs.Common.{◌≡◌, ◌==◌, ℕ, Bool, true, false, not, ◌&&◌, ◌||◌, IsTrue, List, [], ◌∷◌, map, refl, sym, ap, ◌∙◌, arith, All}
use Rattle.std.specs.List.{list_any}
use Rattle.std.proofs.lemmas.Bool.{and_parts, and_from}
use Rattle.std.proofs.lemmas.List.Elements.{All-head, All-tail}
use Rattle.dt_graph.specs.Graph.{Graph, has_number, is_live}
use Rattle.dt_graph.specs.Below.{is_below}
use Rattle.dt_graph.specs.Descendants.{descendants}
use Rattle.dt_graph.proofs.AscendingSets.{same_truth}
use Rattle.dt_graph.proofs.BelowSets.{both_live}
use Rattle.dt_definitions.specs.Program.{Definition, Program, definitions_of}
use Rattle.dt_definitions.specs.declared.definition_key.DefinitionKey.{DefinitionKey}
use Rattle.dt_definitions.specs.Lawful.{Lawful}
use Rattle.dt_scratch.specs.Query.{Query}
use Rattle.dt_scratch.specs.Resolve.{are_below, applicable}
use Rattle.dt_graph.proofs.ListMembers.{by_cases, any_from_In, In, In-filter, In-from_any, In-from_filter, list_any-map}
use Rattle.dt_propagate.specs.Boxes.{Box, is_within}
use Rattle.dt_definitions.specs.Differing.{is_at_any}
use Rattle.dt_graph.specs.LinkChanges.{is_below_any}
use Rattle.dt_scratch.specs.Locality.{meets, is_candidate}
use Rattle.dt_propagate.specs.CandidateBoxes.{candidate_box, MarksBelow, CandidatesAreHeld}
use Rattle.dt_propagate.proofs.Counts.{cone_has, own}

-- one set of a box, with its mark
one_place : (below marked rest any needs_marked : Bool) →
    (below && (rest && (not (needs_marked && not marked) || any))) ≡ ((below && rest) && (not needs_marked || (marked || any)))
one_place below marked rest any needs_marked = grind arith

no_place : (needs_marked : Bool) → not needs_marked ≡ (true && (not needs_marked || false))
no_place needs_marked = grind arith

module _ (edited marked : List ℕ) (redefined : List DefinitionKey) (program : Program) (lawful : Lawful program)
    (marks : MarksBelow edited program.graph marked) where
  abbrev g : Graph
  g = program.graph

  abbrev IsLive : ℕ → Type 0
  IsLive class = IsTrue (is_live g class)

  within_is : (classes highs : List ℕ) (needs_marked : Bool) → All IsLive highs →
      is_within marked (map (descendants g) highs) needs_marked classes
      ≡ (are_below g.links classes highs && (not needs_marked || meets g.links edited classes))
  within_is [] [] needs_marked live = no_place needs_marked
  within_is (class ∷ classes) [] needs_marked live = refl
  within_is [] (high ∷ highs) needs_marked live = refl
  within_is (class ∷ classes) (high ∷ highs) needs_marked live =
      let cone = cone_has program lawful class high (All-head IsLive high highs live) in
      let rest = within_is classes highs (needs_marked && not (has_number marked class)) (All-tail IsLive high highs live) in
      by_cases (is_below g.links class high)
      (λ t.
      let there : IsLive class = both_live g lawful.graph class high t ∙ All-head IsLive high highs live in
      let mark = marks class there in
      rw (cone, rest, mark) (one_place (is_below g.links class high) (is_below_any g.links edited class)
      (are_below g.links classes highs) (meets g.links edited classes) needs_marked))
      (λ f. rw (cone, f) refl)

  abbrev test : Query → Definition → Bool
  test query d = is_within marked (map (descendants g) d.classes) (not (is_at_any redefined d)) query.classes

  twice : (met at : Bool) → (not (not at) || met) ≡ (met || at)
  twice met at = grind arith

  test_is : (query : Query) (d : Definition) → In program.definitions d →
      test query d ≡ (are_below g.links query.classes d.classes && (meets g.links edited query.classes || is_at_any redefined d))
  test_is query d i =
      within_is query.classes d.classes (not (is_at_any redefined d)) (own program lawful d i).classes_live
      ∙ ap (λ b. are_below g.links query.classes d.classes && b) (twice (meets g.links edited query.classes) (is_at_any redefined d))

  held : (query : Query) → is_candidate edited redefined program query
      ≡ list_any (test query) (definitions_of program query.selector)
  held query = same_truth (is_candidate edited redefined program query) (list_any (test query) (definitions_of program query.selector))
      (λ any.
      let d = In-from_any (λ d. meets g.links edited query.classes || is_at_any redefined d) (applicable program query) any in
      let parts = In-from_filter (λ d. (d.selector == query.selector) && are_below g.links query.classes d.classes) program.definitions d.0 d.1 in
      let both = and_parts (d.0.selector == query.selector) (are_below g.links query.classes d.0.classes) parts.1 in
      any_from_In (test query) (definitions_of program query.selector) d.0
      (In-filter (λ d. d.selector == query.selector) program.definitions d.0 parts.0 both.0)
      (test_is query d.0 parts.0 ∙ and_from (are_below g.links query.classes d.0.classes) (meets g.links edited query.classes || is_at_any redefined d.0) both.1 d.2))
      (λ any.
      let d = In-from_any (test query) (definitions_of program query.selector) any in
      let parts = In-from_filter (λ d. d.selector == query.selector) program.definitions d.0 d.1 in
      let both = and_parts (are_below g.links query.classes d.0.classes) (meets g.links edited query.classes || is_at_any redefined d.0)
      (sym (test_is query d.0 parts.0) ∙ d.2) in
      any_from_In (λ d. meets g.links edited query.classes || is_at_any redefined d) (applicable program query) d.0
      (In-filter (λ d. (d.selector == query.selector) && are_below g.links query.classes d.classes) program.definitions d.0 parts.0
      (and_from (d.0.selector == query.selector) (are_below g.links query.classes d.0.classes) parts.1 both.0)) both.1)

pub candidates_are_held : CandidatesAreHeld
candidates_are_held edited marked redefined program lawful marks query =
    held edited marked redefined program lawful marks query
    ∙ sym (list_any-map (candidate_box redefined program) (λ (box : Box). is_within marked box.sets box.needs_marked query.classes)
    (definitions_of program query.selector))
