-- Marks for each position serve too.
use Rattle.std.proofs.Common.{◌≡◌, ◌==◌, ℕ, ◌+◌, Bool, true, false, ◌&&◌, ◌||◌, IsTrue, List, [], ◌∷◌, refl, sym, ◌∙◌}
use Rattle.std.specs.List.{Contains}
use Rattle.std.proofs.lemmas.Bool.{false≢true, and_parts, and_from, or_parts, eqb-true}
use Rattle.dt_graph.specs.Below.{is_below}
use Rattle.dt_definitions.specs.Program.{Definition, Program}
use Rattle.dt_definitions.specs.declared.definition_key.DefinitionKey.{DefinitionKey}
use Rattle.dt_scratch.specs.Query.{Query}
use Rattle.dt_scratch.specs.Resolve.{are_below, applicable}
use Rattle.dt_graph.proofs.ListMembers.{by_cases, In-from_Contains, Contains-from_In, In-filter, In-from_filter, none_at}
use Rattle.dt_definitions.specs.Differing.{is_at_any}
use Rattle.dt_propagate.specs.FinerMarks.{is_marked, are_named, NamesAll, MarksTell, is_marked_candidate, FinerMarksServe}
use Rattle.dt_scratch.proofs.Cells.{cells_are_answers}
use Rattle.dt_scratch.proofs.Lowest.{not_understood_where_none}
use Rattle.dt_scratch.proofs.SameAnswers.{same_answers}
use Rattle.dt_scratch.proofs.OtherCells.{none_there}

module _ (marked named : ℕ → ℕ → Bool) (old new : Program) (tell : MarksTell marked named old new) where
  unmarked_stay : (position : ℕ) (lows highs : List ℕ) → is_marked marked position lows ≡ false → IsTrue (are_named named position highs) →
      are_below old.graph.links lows highs ≡ are_below new.graph.links lows highs
  unmarked_stay position [] [] unmarked names = refl
  unmarked_stay position [] (high ∷ highs) unmarked names = refl
  unmarked_stay position (low ∷ lows) [] unmarked names = refl
  unmarked_stay position (low ∷ lows) (high ∷ highs) unmarked names =
      let parts = or_parts (marked position low) (is_marked marked (position + 1) lows) unmarked in
      let both = and_parts (named position high) (are_named named (position + 1) highs) names in
      rw (tell.same_above position low high parts.0 both.0, unmarked_stay (position + 1) lows highs parts.1 both.1) refl

  order_stays : (position : ℕ) (lows a b : List ℕ) → is_marked marked position lows ≡ false →
      IsTrue (are_named named position a) → IsTrue (are_named named position b) → are_below old.graph.links lows a ≡ true →
      are_below old.graph.links a b ≡ are_below new.graph.links a b
  order_stays position [] [] [] unmarked na nb below = refl
  order_stays position [] [] (y ∷ ys) unmarked na nb below = refl
  order_stays position [] (x ∷ xs) b unmarked na nb below = absurd (false≢true below)
  order_stays position (low ∷ lows) [] b unmarked na nb below = absurd (false≢true below)
  order_stays position (low ∷ lows) (x ∷ xs) [] unmarked na nb below = refl
  order_stays position (low ∷ lows) (x ∷ xs) (y ∷ ys) unmarked na nb below =
      let parts = or_parts (marked position low) (is_marked marked (position + 1) lows) unmarked in
      let ax = and_parts (named position x) (are_named named (position + 1) xs) na in
      let by = and_parts (named position y) (are_named named (position + 1) ys) nb in
      let both = and_parts (is_below old.graph.links low x) (are_below old.graph.links lows xs) below in
      rw (tell.same_order position low x y parts.0 ax.0 by.0 both.0, order_stays (position + 1) lows xs ys parts.1 ax.1 by.1 both.1) refl

abbrev applies : Program → Query → Definition → Bool
applies program query d = (d.selector == query.selector) && are_below program.graph.links query.classes d.classes

module _ (marked named : ℕ → ℕ → Bool) (redefined : List DefinitionKey) (query : Query) where
  still : (p q : Program) → ((lows highs : List ℕ) → is_marked marked 0 lows ≡ false → IsTrue (are_named named 0 highs) →
      are_below p.graph.links lows highs ≡ are_below q.graph.links lows highs) →
      ((d : Definition) → is_at_any redefined d ≡ false → Contains p.definitions d → Contains q.definitions d) →
      NamesAll named query.selector p → is_marked marked 0 query.classes ≡ false → is_marked_candidate marked redefined p query ≡ false →
      (d : Definition) → Contains (applicable p query) d → Contains (applicable q query) d
  still p q stay others names unmarked none d there =
      let i = In-from_Contains (applicable p query) d there in
      let parts = In-from_filter (applies p query) p.definitions d i in
      let own = and_parts (d.selector == query.selector) (are_below p.graph.links query.classes d.classes) parts.1 in
      let here = Contains-from_In p.definitions d parts.0 in
      let elsewhere = (or_parts (is_marked marked 0 query.classes) (is_at_any redefined d)
      (none_at (λ d. is_marked marked 0 query.classes || is_at_any redefined d) (applicable p query) d i none)).1 in
      Contains-from_In (applicable q query) d
      (In-filter (applies q query) q.definitions d (In-from_Contains q.definitions d (others d elsewhere here))
      (and_from (d.selector == query.selector) (are_below q.graph.links query.classes d.classes) own.0
      (sym (stay query.classes d.classes unmarked (names d here (eqb-true d.selector query.selector own.0))) ∙ own.1)))

  its_names : (p : Program) → NamesAll named query.selector p → (d : Definition) → Contains (applicable p query) d →
      IsTrue (are_named named 0 d.classes) × (are_below p.graph.links query.classes d.classes ≡ true)
  its_names p names d there =
      let parts = In-from_filter (applies p query) p.definitions d (In-from_Contains (applicable p query) d there) in
      let own = and_parts (d.selector == query.selector) (are_below p.graph.links query.classes d.classes) parts.1 in
      (names d (Contains-from_In p.definitions d parts.0) (eqb-true d.selector query.selector own.0), own.1)

  nothing : (p : Program) → is_marked marked 0 query.classes ≡ true → is_marked_candidate marked redefined p query ≡ false →
      applicable p query ≡ []
  nothing p met none =
      none_there (λ d. is_marked marked 0 query.classes || is_at_any redefined d) (applicable p query) (λ d. rw met refl) none

pub finer_marks_serve : FinerMarksServe
finer_marks_serve marked named redefined old new is_old is_new others tell query names_old names_new none_old none_new =
    cells_are_answers old is_old query
    ∙ by_cases (is_marked marked 0 query.classes)
    (λ met.
    (not_understood_where_none old is_old query).1 (nothing marked named redefined query old met none_old)
    ∙ sym ((not_understood_where_none new is_new query).1 (nothing marked named redefined query new met none_new)))
    (λ unmarked. same_answers old new is_old is_new query (record {
      applicable_stay = λ d. (
        still marked named redefined query old new (unmarked_stay marked named old new tell 0)
            (λ d apart. (others d apart).0) names_old unmarked none_old d,
        still marked named redefined query new old (λ lows highs c n. sym (unmarked_stay marked named old new tell 0 lows highs c n))
            (λ d apart. (others d apart).1) names_new unmarked none_new d,
      );
      order_stays = λ a b i j.
          let na = its_names marked named redefined query old names_old a i in
          let nb = its_names marked named redefined query old names_old b j in
          order_stays marked named old new tell 0 query.classes a.classes b.classes unmarked na.0 nb.0 na.1;
    }))
    ∙ sym (cells_are_answers new is_new query)
