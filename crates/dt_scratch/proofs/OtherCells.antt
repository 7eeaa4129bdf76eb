-- A query that is a candidate in neither program keeps its cell.
use Rattle.std.proofs.Common.{◌≡◌, ◌==◌, ℕ, Bool, true, false, ◌||◌, List, [], refl, sym, ◌∙◌, eq-eqb}
use Rattle.std.specs.List.{Contains, list_any}
use Rattle.std.proofs.lemmas.Bool.{false≢true, and_from, or_parts}
use Rattle.dt_graph.proofs.ListMembers.{by_cases, In-from_Contains, Contains-from_In, In-filter, none_at}
use Rattle.dt_definitions.specs.Program.{Definition, Program}
use Rattle.dt_definitions.specs.declared.definition_key.DefinitionKey.{DefinitionKey}
use Rattle.dt_definitions.specs.Lawful.{Lawful}
use Rattle.dt_definitions.specs.Differing.{DifferOnlyAt, is_at_any}
use Rattle.dt_scratch.specs.declared.reply.Answer.TheVariants.{NotUnderstood}
use Rattle.dt_scratch.specs.Query.{Query}
use Rattle.dt_scratch.specs.Resolve.{applicable, answer}
use Rattle.dt_scratch.specs.Locality.{meets, is_candidate}
use Rattle.dt_scratch.specs.LocalityLaws.{OthersKeepTheirCell}
use Rattle.dt_scratch.proofs.Cells.{cells_are_answers}
use Rattle.dt_scratch.proofs.Lowest.{not_understood_where_none}
use Rattle.dt_scratch.proofs.Parts.{applies, is_applicable}
use Rattle.dt_scratch.proofs.SameAnswers.{none_contained, same_answers}
use Rattle.dt_scratch.proofs.Locality.{unmet_stay, unmet_above, same_meet}

-- a test that holds of all finds nothing in the empty list alone
pub none_there : (test : Definition → Bool) (ds : List Definition) → ((d : Definition) → test d ≡ true) →
    list_any test ds ≡ false → ds ≡ []
none_there test ds all none = none_contained ds (λ d i. false≢true (sym (none_at test ds d i none) ∙ all d))

module _ (edited : List ℕ) (redefined : List DefinitionKey) (query : Query) where
  -- where the query is met, it is a candidate as soon as anything is applicable
  none_answers : (program : Program) → Lawful program → meets program.graph.links edited query.classes ≡ true →
      is_candidate edited redefined program query ≡ false → answer program query ≡ NotUnderstood
  none_answers program lawful met none = (not_understood_where_none program lawful query).1
      (none_there (λ d. meets program.graph.links edited query.classes || is_at_any redefined d) (applicable program query)
      (λ d. rw met refl) none)

  -- where it isn't, what is applicable in the one is so in the other
  still_applicable : (old new : Program) → DifferOnlyAt edited redefined old new →
      meets old.graph.links edited query.classes ≡ false → is_candidate edited redefined old query ≡ false →
      (d : Definition) → Contains (applicable old query) d → Contains (applicable new query) d
  still_applicable old new differ unmet none d there =
      let i = In-from_Contains (applicable old query) d there in
      let own = is_applicable old query d i in
      let elsewhere = (or_parts (meets old.graph.links edited query.classes) (is_at_any redefined d)
      (none_at (λ d. meets old.graph.links edited query.classes || is_at_any redefined d) (applicable old query) d i none)).1 in
      Contains-from_In (applicable new query) d
      (In-filter (applies new.graph.links query) new.definitions d
      (In-from_Contains new.definitions d ((differ.definitions d elsewhere).0 (Contains-from_In old.definitions d own.defined)))
      (and_from (d.selector == query.selector) _ (eq-eqb d.selector query.selector own.of_selector)
      (sym (unmet_stay edited old.graph.links new.graph.links differ.links query.classes d.classes unmet) ∙ own.below)))

  same_answer : (old new : Program) → Lawful old → Lawful new → DifferOnlyAt edited redefined old new →
      is_candidate edited redefined old query ≡ false → is_candidate edited redefined new query ≡ false →
      answer old query ≡ answer new query
  same_answer old new is_old is_new differ none_old none_new =
      let meet = same_meet edited old.graph.links new.graph.links differ.links query.classes in
      by_cases (meets old.graph.links edited query.classes)
      (λ met. none_answers old is_old met none_old ∙ sym (none_answers new is_new (sym meet ∙ met) none_new))
      (λ unmet. same_answers old new is_old is_new query (record {
        applicable_stay = λ d. (
          still_applicable old new differ unmet none_old d,
          still_applicable new old (record {
            links = λ class parent apart. sym (differ.links class parent apart);
            definitions = λ d apart. ((differ.definitions d apart).1, (differ.definitions d apart).0);
          }) (sym meet ∙ unmet) none_new d,
        );
        order_stays = λ a b i _.
            unmet_stay edited old.graph.links new.graph.links differ.links a.classes b.classes
            (unmet_above edited old.graph.links query.classes a.classes unmet
            (is_applicable old query a (In-from_Contains (applicable old query) a i)).below);
      }))

pub others_keep_their_cell : OthersKeepTheirCell
others_keep_their_cell edited redefined old new is_old is_new differ query none_old none_new =
    cells_are_answers old is_old query
    ∙ same_answer edited redefined query old new is_old is_new differ none_old none_new
    ∙ sym (cells_are_answers new is_new query)
