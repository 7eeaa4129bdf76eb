-- What a program understands, as what the boxes of its definitions hold.
use Rattle.std.proofs.Common.{◌≡◌, ◌≢◌, ◌==◌, ◌↔◌, ℕ, suc, ◌≤◌, true, false, ◌&&◌, IsTrue, List, [], ◌∷◌, ◌++◌, length, map, inl, inr, ⊎_elim, refl, sym, ap, subst, ◌∙◌, arith, All}
use Rattle.std.specs.List.{list_any}
use Rattle.std.proofs.lemmas.Bool.{false≢true, and_parts, and_from, and_right}
use Rattle.std.proofs.lemmas.List.Elements.{All-head, All-tail}
use Rattle.dt_graph.specs.Graph.{Graph, has_number, is_live}
use Rattle.dt_graph.specs.Below.{is_below}
use Rattle.dt_graph.specs.Descendants.{descendants}
use Rattle.dt_graph.proofs.Effects.{has_number-filtered}
use Rattle.dt_graph.proofs.BelowSets.{both_live}
use Rattle.dt_graph.proofs.Walks.{is_below_self}
use Rattle.dt_definitions.specs.Program.{Definition, Program, definitions_of}
use Rattle.dt_definitions.specs.Lawful.{Lawful, LawfulDefinition}
use Rattle.dt_scratch.specs.Query.{Query}
use Rattle.dt_scratch.specs.Resolve.{are_below, applicable}
use Rattle.dt_graph.proofs.ListMembers.{by_cases, any_from_In, In, In-from_any, list_any-map, In-filter, In-from_filter, In-from_Contains, Contains-from_In, All-In}
use Rattle.dt_propagate.specs.Boxes.{Box, is_within, is_within_any}
use Rattle.dt_propagate.specs.Understood.{Understands, IsRow, gone_on}
use Rattle.dt_propagate.specs.Counts.{box_of, boxes_of, is_begun, is_begun_any, NoneTwice, UnderstoodIsHeld, RowsAreBegun, PartsAreNoLonger}
use Rattle.dt_scratch.proofs.Cells.{cells_are_answers}
use Rattle.dt_scratch.proofs.Lowest.{not_understood_where_none}

-- ---- lists

some_in : {T : Type 0} (xs : List T) → xs ≢ [] → (x : T) × In xs x
some_in [] h = absurd (h refl)
some_in (x ∷ xs) h = (x, inl refl)

not_empty : {T : Type 0} (xs : List T) (x : T) → In xs x → xs ≢ []
not_empty xs x i e = subst (λ ys. In ys x) e i

-- ---- cones

module _ (program : Program) (lawful : Lawful program) where
  abbrev g : Graph
  g = program.graph

  abbrev IsLive : ℕ → Type 0
  IsLive class = IsTrue (is_live g class)

  pub cone_has : (low high : ℕ) → IsLive high → has_number (descendants g high) low ≡ is_below g.links low high
  cone_has low high live =
      has_number-filtered (λ c. is_below g.links c high) g.classes low
      ∙ by_cases (is_below g.links low high)
      (λ t.
      let there : is_live g low ≡ true = both_live g lawful.graph low high t ∙ live in
      rw (t, there) refl)
      (λ f. and_right (is_live g low) (is_below g.links low high) f ∙ sym f)

  pub within_is : (classes highs : List ℕ) → All IsLive highs →
      is_within [] (map (descendants g) highs) false classes ≡ are_below g.links classes highs
  within_is [] [] live = refl
  within_is (class ∷ classes) [] live = refl
  within_is [] (high ∷ highs) live = refl
  within_is (class ∷ classes) (high ∷ highs) live =
      rw (cone_has class high (All-head IsLive high highs live), within_is classes highs (All-tail IsLive high highs live)) refl

  pub own : (d : Definition) → In program.definitions d → LawfulDefinition program d
  own d i = All-In (LawfulDefinition program) program.definitions d lawful.definitions_lawful i

  -- the selector's definitions that are applicable are those whose box has the classes
  pub held_is : (query : Query) → is_within_any [] (boxes_of program query.selector) query.classes
      ≡ list_any (λ d. is_within [] (map (descendants g) d.classes) false query.classes) (definitions_of program query.selector)
  held_is query = list_any-map (box_of program) (λ (box : Box). is_within [] box.sets box.needs_marked query.classes) (definitions_of program query.selector)

  held : (query : Query) → applicable program query ≢ [] →
      IsTrue (is_within_any [] (boxes_of program query.selector) query.classes)
  held query some =
      let d = some_in (applicable program query) some in
      let parts = In-from_filter (λ d. (d.selector == query.selector) && are_below g.links query.classes d.classes) program.definitions d.0 d.1 in
      let tests = and_parts (d.0.selector == query.selector) (are_below g.links query.classes d.0.classes) parts.1 in
      held_is query ∙ any_from_In (λ d. is_within [] (map (descendants g) d.classes) false query.classes)
      (definitions_of program query.selector) d.0
      (In-filter (λ d. d.selector == query.selector) program.definitions d.0 parts.0 tests.0)
      (within_is query.classes d.0.classes (own d.0 parts.0).classes_live ∙ tests.1)

  some_applicable : (query : Query) → IsTrue (is_within_any [] (boxes_of program query.selector) query.classes) →
      applicable program query ≢ []
  some_applicable query any =
      let d = In-from_any (λ d. is_within [] (map (descendants g) d.classes) false query.classes)
      (definitions_of program query.selector) (sym (held_is query) ∙ any) in
      let parts = In-from_filter (λ d. d.selector == query.selector) program.definitions d.0 d.1 in
      not_empty (applicable program query) d.0
      (In-filter (λ d. (d.selector == query.selector) && are_below g.links query.classes d.classes) program.definitions d.0 parts.0
      (and_from (d.0.selector == query.selector) (are_below g.links query.classes d.0.classes) parts.1
      (sym (within_is query.classes d.0.classes (own d.0 parts.0).classes_live) ∙ d.2)))

  understood : (query : Query) →
      Understands program query ↔ IsTrue (is_within_any [] (boxes_of program query.selector) query.classes)
  understood query = (
    (λ h. held query (λ none. h (cells_are_answers program lawful query ∙ (not_understood_where_none program lawful query).1 none))),
    (λ any e. some_applicable query any
        ((not_understood_where_none program lawful query).0 (sym (cells_are_answers program lawful query) ∙ e))),
  )

  -- ---- rows

  -- classes that go on from a prefix by one at least go into the first sets
  begun_from : (prefix rest : List ℕ) (sets : List (List ℕ)) → rest ≢ [] →
      is_within [] sets false (prefix ++ rest) ≡ true → is_begun sets prefix ≡ true
  begun_from [] [] sets more h = absurd (more refl)
  begun_from [] (r ∷ rest) [] more h = absurd (false≢true h)
  begun_from [] (r ∷ rest) (set ∷ sets) more h = refl
  begun_from (class ∷ prefix) rest [] more h = absurd (false≢true h)
  begun_from (class ∷ prefix) rest (set ∷ sets) more h =
      let parts = and_parts (has_number set class) (is_within [] sets false (prefix ++ rest)) h in
      and_from (has_number set class) (is_begun sets prefix) parts.0 (begun_from prefix rest sets more parts.1)

  -- each cone of a live class has that class
  full : (highs : List ℕ) → All IsLive highs → is_within [] (map (descendants g) highs) false highs ≡ true
  full [] live = refl
  full (high ∷ highs) live =
      let head = All-head IsLive high highs live in
      and_from (has_number (descendants g high) high) (is_within [] (map (descendants g) highs) false highs)
      (cone_has high high head ∙ is_below_self g.links high) (full highs (All-tail IsLive high highs live))

  goes_on : (prefix highs : List ℕ) → All IsLive highs → is_begun (map (descendants g) highs) prefix ≡ true →
      (rest : List ℕ) × (rest ≢ []) × (is_within [] (map (descendants g) highs) false (prefix ++ rest) ≡ true)
  goes_on prefix [] live h = absurd (false≢true h)
  goes_on [] (high ∷ highs) live h = (high ∷ highs, (λ e. absurd (cc)), full (high ∷ highs) live)
  goes_on (class ∷ prefix) (high ∷ highs) live h =
      let parts = and_parts (has_number (descendants g high) class) (is_begun (map (descendants g) highs) prefix) h in
      let rest = goes_on prefix highs (All-tail IsLive high highs live) parts.1 in
      (rest.0, rest.1, and_from (has_number (descendants g high) class) (is_within [] (map (descendants g) highs) false (prefix ++ rest.0)) parts.0 rest.2)

  pub begun_is : (prefix : Query) → is_begun_any (boxes_of program prefix.selector) prefix.classes
      ≡ list_any (λ d. is_begun (map (descendants g) d.classes) prefix.classes) (definitions_of program prefix.selector)
  begun_is prefix = list_any-map (box_of program) (λ (box : Box). is_begun box.sets prefix.classes) (definitions_of program prefix.selector)

  rows : (prefix : Query) → IsRow program prefix ↔ IsTrue (is_begun_any (boxes_of program prefix.selector) prefix.classes)
  rows prefix = (
    (λ row.
        let any = (understood (gone_on prefix row.0)).0 row.1.understood in
        let d = In-from_any (λ d. is_within [] (map (descendants g) d.classes) false (prefix.classes ++ row.0))
        (definitions_of program prefix.selector) (sym (held_is (gone_on prefix row.0)) ∙ any) in
        begun_is prefix ∙ any_from_In (λ d. is_begun (map (descendants g) d.classes) prefix.classes)
        (definitions_of program prefix.selector) d.0 d.1
        (begun_from prefix.classes row.0 (map (descendants g) d.0.classes) row.1.some d.2)),
    (λ any.
        let d = In-from_any (λ d. is_begun (map (descendants g) d.classes) prefix.classes)
        (definitions_of program prefix.selector) (sym (begun_is prefix) ∙ any) in
        let parts = In-from_filter (λ d. d.selector == prefix.selector) program.definitions d.0 d.1 in
        let rest = goes_on prefix.classes d.0.classes (own d.0 parts.0).classes_live d.2 in (
          rest.0,
          record {
            some = rest.1;
            understood = (understood (gone_on prefix rest.0)).1
                (held_is (gone_on prefix rest.0) ∙ any_from_In (λ d. is_within [] (map (descendants g) d.classes) false (prefix.classes ++ rest.0))
                (definitions_of program prefix.selector) d.0 d.1 rest.2);
          },
        )),
  )

pub understood_is_held : UnderstoodIsHeld
understood_is_held program lawful query = understood program lawful query

pub rows_are_begun : RowsAreBegun
rows_are_begun program lawful prefix = rows program lawful prefix

-- ---- counting

module _ {T : Type 0} where
  -- a list without one of its elements
  record Without (xs : List T) (x : T) : Type 0 where
    rest : List T
    shorter : length xs ≡ suc (length rest)
    others : (y : T) → In xs y → (y ≡ x → ⊥) → In rest y

  without : (xs : List T) (x : T) → In xs x → Without xs x
  without [] x i = absurd i
  without (z ∷ zs) x (inl e) = record {
    rest = zs;
    shorter = refl;
    others = λ y i apart. ⊎_elim (λ f. absurd (apart (f ∙ sym e))) (λ j. j) i;
  }
  without (z ∷ zs) x (inr i) =
      let w = without zs x i in record {
        rest = z ∷ w.rest;
        shorter = ap suc w.shorter;
        others = λ y j apart. ⊎_elim (λ f. inl f) (λ k. inr (w.others y k apart)) j;
      }

  no_longer : (part all : List T) → NoneTwice part → ((x : T) → In part x → In all x) → length part ≤ length all
  no_longer [] all once there = omega arith
  no_longer (x ∷ xs) all once there =
      let w = without all x (there x (inl refl)) in
      let fewer = no_longer xs w.rest once.1
      (λ y i. w.others y (there y (inr i)) (λ e. once.0 (Contains-from_In xs x (subst (In xs) e i)))) in
      omega (arith, fewer, w.shorter)

pub parts_are_no_longer : PartsAreNoLonger
parts_are_no_longer part all once there =
    no_longer part all once (λ x i. In-from_Contains all x (there x (Contains-from_In part x i)))
