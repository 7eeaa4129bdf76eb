-- A batch leaves a program that differs from the old one only where its edits say.
use Rattle.std.proofs.Common.{◌≡◌, ◌==◌, ℕ, Bool, false, not, List, [], ◌∷◌, ◌++◌, filter, refl, sym, ap, subst, ◌∙◌, arith}
use Rattle.std.proofs.lemmas.Bool.{or_parts}
use Rattle.std.proofs.lemmas.Bool.Decides.{nat_tests}
use Rattle.std.proofs.lemmas.List.Folds.{list_any-append}
use Rattle.dt_graph.specs.Graph.{has_number}
use Rattle.dt_graph.specs.LinkChanges.{OthersKeepTheirLinks}
use Rattle.dt_graph.proofs.Effects.{links_after_add, links_after_drop, links_after_link, links_after_unlink}
use Rattle.dt_graph.proofs.ListMembers.{In-from_Contains, Contains-from_In, In-filter, In-from_filter}
use Rattle.dt_graph.proofs.InOrder.{In-inserted, In-from_inserted}
use Rattle.dt_definitions.specs.Program.{Definition, Program, is_definition, insert_definition, key_of, is_key_before, is_same_key}
use Rattle.dt_definitions.specs.declared.definition_key.DefinitionKey.{DefinitionKey}
use Rattle.dt_definitions.specs.Laws.{LeadsTo}
use Rattle.dt_definitions.specs.Step.{effect}
use Rattle.dt_definitions.specs.Differing.{OthersStayDefined, DifferOnlyAt, is_at_any, edited_by, redefined_by, edited_classes, redefined_keys}
use Rattle.dt_definitions.specs.BatchLaws.{BatchesDifferWhereTheySay, BatchesKeepLaw}
use Rattle.dt_definitions.specs.declared.edit.Edit.{Edit}
use Rattle.dt_definitions.specs.declared.edit.Edit.TheVariants.{AddClass, DropClass, Link, Unlink, Define, Undefine}
use Rattle.dt_definitions.proofs.AnswerLaws.{ok_has_no_cause}
use Rattle.dt_definitions.proofs.BatchLaws.{batch_is_its_edits}
use Rattle.dt_definitions.proofs.DefinitionOrder.{key_order}
use Rattle.dt_definitions.proofs.Histories.{lawful-along}

-- ---- definitions

others_placed : (new : Definition) (ds : List Definition) → OthersStayDefined (key_of new ∷ []) ds (insert_definition new ds)
others_placed new ds = λ d apart.
    let elsewhere = (or_parts (is_definition new.selector new.classes d) false apart).0 in (
      (λ there. Contains-from_In (insert_definition new ds) d
          (In-inserted key_of is_key_before is_same_key key_order new d elsewhere ds (In-from_Contains ds d there))),
      (λ there. Contains-from_In ds d
          (In-from_inserted key_of is_key_before is_same_key key_order new d elsewhere ds
          (In-from_Contains (insert_definition new ds) d there))),
    )

others_removed : (selector : ℕ) (classes : List ℕ) (ds : List Definition) →
    OthersStayDefined (record { selector = selector; classes = classes } ∷ []) ds
    (filter (λ d. not (is_definition selector classes d)) ds)
others_removed selector classes ds = λ d apart.
    let test : Definition → Bool = λ d. not (is_definition selector classes d) in
    let elsewhere = (or_parts (is_definition selector classes d) false apart).0 in (
      (λ there. Contains-from_In (filter test ds) d (In-filter test ds d (In-from_Contains ds d there) (ap not elsewhere))),
      (λ there. Contains-from_In ds d (In-from_filter test ds d (In-from_Contains (filter test ds) d there)).0),
    )

-- ---- one edit

others_linked : (p : Program) (edit : Edit) → OthersKeepTheirLinks (edited_by edit) p.graph.links (effect p edit).graph.links
others_linked p (AddClass class parents) low high apart =
    let after = links_after_add p.graph class parents low high in grind (arith, nat_tests)
others_linked p (DropClass class) low high apart =
    let after = links_after_drop p.graph class low high in grind (arith, nat_tests)
others_linked p (Link class parent) low high apart =
    let after = links_after_link p.graph class parent low high in grind (arith, nat_tests)
others_linked p (Unlink class parent) low high apart =
    let after = links_after_unlink p.graph class parent low high in grind (arith, nat_tests)
others_linked p edit low high apart = refl

others_defined : (p : Program) (edit : Edit) → OthersStayDefined (redefined_by edit) p.definitions (effect p edit).definitions
others_defined p (Define selector classes body) =
    others_placed (record { selector = selector; classes = classes; body = body }) p.definitions
others_defined p (Undefine selector classes) = others_removed selector classes p.definitions
others_defined p edit = λ d apart. ((λ there. there), (λ there. there))

pub differ_by : (p : Program) (edit : Edit) → DifferOnlyAt (edited_by edit) (redefined_by edit) p (effect p edit)
differ_by p edit = record { links = others_linked p edit; definitions = others_defined p edit }

-- ---- one after the other

and_then : (edited more : List ℕ) (redefined further : List DefinitionKey) (p q r : Program) →
    DifferOnlyAt edited redefined p q → DifferOnlyAt more further q r →
    DifferOnlyAt (edited ++ more) (redefined ++ further) p r
and_then edited more redefined further p q r first second = record {
  links = λ class parent apart.
      let parts = or_parts (has_number edited class) (has_number more class)
      (sym (list_any-append (λ n. n == class) edited more) ∙ apart) in
      first.links class parent parts.0 ∙ second.links class parent parts.1;
  definitions = λ d apart.
      let parts = or_parts (is_at_any redefined d) (is_at_any further d)
      (sym (list_any-append (λ (key : DefinitionKey). is_definition key.selector key.classes d) redefined further) ∙ apart) in
      let one = first.definitions d parts.0 in
      let two = second.definitions d parts.1 in
      ((λ there. two.0 (one.0 there)), (λ there. one.1 (two.1 there)));
}

by_edits : (p q : Program) (edits : List Edit) → LeadsTo p edits q →
    DifferOnlyAt (edited_classes edits) (redefined_keys edits) p q
by_edits p q [] same = subst (λ r. DifferOnlyAt [] [] p r) same
    (record { links = λ class parent apart. refl; definitions = λ d apart. ((λ there. there), (λ there. there)) })
by_edits p q (edit ∷ edits) leads =
    let next : leads.0 ≡ effect p edit = (ok_has_no_cause p leads.0 edit leads.1).1 in
    and_then (edited_by edit) (edited_classes edits) (redefined_by edit) (redefined_keys edits) p leads.0 q
    (subst (λ r. DifferOnlyAt (edited_by edit) (redefined_by edit) p r) (sym next) (differ_by p edit))
    (by_edits leads.0 q edits leads.2)

pub batches_differ : BatchesDifferWhereTheySay
batches_differ old new edits accepted = by_edits old new edits (batch_is_its_edits old new edits accepted)

-- ---- and that is lawful

pub batches_keep_law : BatchesKeepLaw
batches_keep_law old new edits lawful in_range accepted =
    lawful-along old new edits (batch_is_its_edits old new edits accepted) lawful in_range
