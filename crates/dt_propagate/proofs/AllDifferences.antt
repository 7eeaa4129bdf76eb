-- What is told of all queries are the differences.
use Rattle.std.proofs.Common.{◌≡◌, ◌≢◌, ◌<◌, IsTrue, List, length, ⊎_elim, refl, sym, subst}
use Rattle.std.proofs.lemmas.List.Elements.{All-weaker}
use Rattle.dt_graph.specs.Graph.{is_live}
use Rattle.dt_graph.specs.declared.limits.TheConstants.{CLASSES}
use Rattle.dt_graph.proofs.ListMembers.{All-from_In}
use Rattle.dt_selectors.proofs.Arities.{live_in_range}
use Rattle.dt_definitions.specs.Program.{Program}
use Rattle.dt_definitions.specs.Lawful.{Lawful}
use Rattle.dt_definitions.proofs.ProgramLaws.{live_classes_are_in_range}
use Rattle.dt_scratch.specs.declared.reply.Answer.TheVariants.{NotUnderstood}
use Rattle.dt_scratch.specs.declared.reply.Change.{Change}
use Rattle.dt_scratch.specs.Query.{Query}
use Rattle.dt_scratch.specs.Resolve.{cell}
use Rattle.dt_scratch.proofs.Cells.{understood_cells}
use Rattle.dt_propagate.specs.Differences.{Differs, TellsNewCell, AreDifferences}
use Rattle.dt_propagate.specs.GoneThrough.{all_arities, told_of_all}
use Rattle.dt_propagate.specs.Walk.{told_change}
use Rattle.dt_propagate.proofs.GoneThrough.{IsGoneThrough, told_are_all, told_of_one, arities_ascend, arity_listed}
use Rattle.dt_propagate.proofs.Leaf.{told_once, told_differs, differs_told}
use Rattle.dt_propagate.proofs.Touching.{one_understood}

abbrev query_of : Change → Query
query_of change = change.query

pub understood_through : (program : Program) → Lawful program → (old new : Program) (query : Query) → cell program query ≢ NotUnderstood →
    IsGoneThrough query_of (told_change old new) (told_once old new) all_arities arities_ascend query
understood_through program lawful old new query some =
    let is = (understood_cells program lawful query).0 some in
    let range = live_in_range program.selectors lawful.selectors query.selector (length query.classes) is.arity_fits in
    record {
      selector = range.0;
      arity = arity_listed (length query.classes) range.1 range.2;
      classes = All-weaker (λ class. IsTrue (is_live program.graph class)) (λ class. class < CLASSES)
          (λ class live. live_classes_are_in_range program lawful class live) query.classes is.classes_live;
    }

pub differences_are : (old new : Program) (changes : List Change) → Lawful old → Lawful new →
    changes ≡ told_of_all (told_change old new) all_arities → AreDifferences old new changes
differences_are old new changes is_old is_new e = subst (AreDifferences old new) (sym e) (record {
  queries = told_are_all query_of (told_change old new) (told_once old new) all_arities arities_ascend (Differs old new)
      (λ query x i. (told_differs old new query x i).0)
      (λ query differs. (
        ⊎_elim (λ some. understood_through old is_old old new query some) (λ some. understood_through new is_new old new query some)
            (one_understood old new query differs),
        differs_told old new query differs,
      ));
  answers = All-from_In (TellsNewCell new) (told_of_all (told_change old new) all_arities) (λ x i.
      let t = told_of_one query_of (told_change old new) (told_once old new) all_arities arities_ascend x i in
      subst (TellsNewCell new) (sym (told_differs old new t.0 x t.1).1) refl);
})
