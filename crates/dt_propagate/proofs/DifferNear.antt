-- A batch leaves a program that differs near its edits.
use Rattle.std.proofs.Common.{◌≡◌, ℕ, false, List, [], ◌∷◌, refl, sym, ◌∙◌}
use Rattle.std.specs.List.{list_any}
use Rattle.std.proofs.lemmas.Bool.{false≢true, false_from_ne_true, or_parts, or_from}
use Rattle.dt_graph.proofs.ListMembers.{by_cases, any_listed}
use Rattle.dt_graph.specs.Graph.{Link, has_number}
use Rattle.dt_graph.specs.Below.{is_below}
use Rattle.dt_graph.specs.LinkChanges.{is_below_any}
use Rattle.dt_graph.specs.Laws.{OthersStayBelow}
use Rattle.dt_definitions.specs.Program.{Program}
use Rattle.dt_definitions.specs.Lawful.{Lawful}
use Rattle.dt_definitions.specs.Differing.{DifferOnlyAt}
use Rattle.dt_definitions.specs.declared.definition_key.DefinitionKey.{DefinitionKey}
use Rattle.dt_propagate.specs.Marks.{is_below_in, is_moved, DifferBelow, DifferNear}
use Rattle.dt_propagate.proofs.MarkSteps.{not_moved}

none_old : (old new : List Link) (low : ℕ) (classes : List ℕ) → list_any (λ class. is_below_in old new low class) classes ≡ false →
    is_below_any old classes low ≡ false
none_old old new low [] none = refl
none_old old new low (class ∷ classes) none =
    let parts = or_parts (is_below_in old new low class) (list_any (λ class. is_below_in old new low class) classes) none in
    or_from (is_below old low class) (is_below_any old classes low)
    (or_parts (is_below old low class) (is_below new low class) parts.0).0 (none_old old new low classes parts.1)

pub differ_near : (old new : Program) (keys : List DefinitionKey) (edited set : List ℕ) → Lawful old → Lawful new → OthersStayBelow →
    DifferOnlyAt edited keys old new →
    ((n : ℕ) → has_number set n ≡ list_any (λ class. is_below_in old.graph.links new.graph.links n class) edited) →
    DifferNear old new keys set
differ_near old new keys edited set is_old is_new others differ set_is = record {
  old_lawful = is_old;
  new_lawful = is_new;
  definitions = differ.definitions;
  others = λ low high not. others edited old.graph.links new.graph.links differ.links low high
      (none_old old.graph.links new.graph.links low edited (sym (set_is low) ∙ not));
}

-- and in what is below the classes that moved
pub differ_below : (old new : Program) (keys : List DefinitionKey) (edited moved : List ℕ) → DifferNear old new keys edited →
    ((n : ℕ) → has_number moved n ≡ list_any (λ class. is_moved old.graph.links new.graph.links class n) edited) →
    DifferBelow old new keys moved
differ_below old new keys edited moved differ moved_is = record {
  old_lawful = differ.old_lawful;
  new_lawful = differ.new_lawful;
  definitions = differ.definitions;
  others = λ low high not. by_cases (has_number edited low)
      (λ t. not_moved (is_below old.graph.links low high) (is_below new.graph.links low high)
      (false_from_ne_true (is_moved old.graph.links new.graph.links low high) (λ m.
      false≢true (sym not ∙ moved_is high ∙ any_listed (λ class. is_moved old.graph.links new.graph.links class high) edited low t m))))
      (λ f. differ.others low high f);
}
