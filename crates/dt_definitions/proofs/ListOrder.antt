-- The rows of definitions are in the order of their classes, and a change of a row is one of its selector's definitions.
use Rattle.std.proofs.Common.{◌≡◌, ℕ, List, filter, not, refl, sym, ◌∙◌, arith}
use Rattle.std.proofs.lemmas.Bool.{eq-eqb, le-ltb}
use Rattle.dt_graph.specs.InOrder.{StrictOrder, insert_by_key, without}
use Rattle.dt_definitions.specs.Program.{are_classes_before, same_classes, is_definition, insert_definition, key_of, is_key_before, is_same_key}
use Rattle.dt_definitions.specs.SelectorLists.{definition_of, with_selector, classes_at, are_same}
use Rattle.dt_definitions.specs.declared.defined.Defined.{Defined}
use Rattle.dt_graph.proofs.SameLists.{same_list-self, same_list_equal}
use Rattle.dt_definitions.proofs.ClassOrder.{same-sym, before-irrefl, before-trans, before-total}
use Rattle.dt_definitions.proofs.Searching.{map-insert, map-without}

pub class_order : StrictOrder are_classes_before are_same
class_order = record {
  transitive = before-trans;
  irreflexive = before-irrefl;
  total = λ a b p q. before-total a b p (same-sym a b ∙ q);
  equal = λ a b s. sym (same_list_equal b a s);
  reflexive = same_list-self;
}

-- within one selector the order is that of the classes
before_within : (s : ℕ) (x y : Defined)
    → is_key_before (key_of (definition_of s x)) (key_of (definition_of s y)) ≡ are_classes_before x.classes y.classes
before_within s x y =
    let e = eq-eqb s s refl in let l = le-ltb s s (omega arith) in rw (e, l) refl

is_within : (s : ℕ) (xs : List ℕ) (y : Defined) → is_definition s xs (definition_of s y) ≡ same_classes y.classes xs
is_within s xs y = let e = eq-eqb s s refl in rw e refl

-- one definition more in a row, and one less
pub put_in_row : (s : ℕ) (new : Defined) (row : List Defined)
    → with_selector s (insert_by_key classes_at are_classes_before are_same new row) ≡ insert_definition (definition_of s new) (with_selector s row)
put_in_row s new row =
    map-insert (definition_of s) classes_at are_classes_before are_same key_of is_key_before is_same_key
    (before_within s) (λ x y. is_within s x.classes y) new row

pub gone_from_row : (s : ℕ) (classes : List ℕ) (row : List Defined)
    → with_selector s (without classes_at are_same classes row) ≡ filter (λ d. not (is_definition s classes d)) (with_selector s row)
gone_from_row s classes row =
    map-without (definition_of s) classes_at are_same key_of is_same_key classes (record { selector = s; classes = classes })
    (λ y. is_within s classes y) row
