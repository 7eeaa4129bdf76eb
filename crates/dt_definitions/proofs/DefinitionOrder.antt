-- The order of definitions, and lists of definitions that ascend in it.
use Rattle.std.proofs.Common.{◌≡◌, ℕ, ◌≤◌, Bool, List, filter, IsTrue, refl, sym, arith, eqb}
use Rattle.std.specs.List.{count_by}
use Rattle.std.proofs.lemmas.Bool.{and_parts, eqb-true}
use Rattle.std.proofs.lemmas.Bool.Decides.{nat_tests}
use Rattle.dt_definitions.specs.Program.{Definition, same_classes, is_definition, insert_definition, key_of, is_key_before, is_same_key}
use Rattle.dt_graph.specs.InOrder.{StrictOrder}
use Rattle.dt_graph.proofs.InOrder.{Ascends-insert, Ascends-filter, stands_once}
use Rattle.dt_definitions.specs.Lawful.{AscendingDefinitions}
use Rattle.dt_graph.proofs.SameLists.{same_list-self, same_list_equal}
use Rattle.dt_definitions.proofs.ClassOrder.{same-sym, before-irrefl, before-trans, before-total}

-- where it is the definition, the selector and the classes are equal
pub is_definition-equal : (s : ℕ) (cs : List ℕ) (d : Definition)
    → IsTrue (is_definition s cs d) → (d.selector ≡ s) × (d.classes ≡ cs)
is_definition-equal s cs d h =
    let p = and_parts (eqb d.selector s) (same_classes d.classes cs) h in
    (eqb-true d.selector s p.0, same_list_equal d.classes cs p.1)

-- the keys of definitions are in strict order
pub key_order : StrictOrder is_key_before is_same_key
key_order = record {
  transitive = λ a b c p q. let t = before-trans a.classes b.classes c.classes in grind (arith, nat_tests);
  irreflexive = λ a. let i = before-irrefl a.classes in grind (arith, nat_tests);
  total = λ a b p q.
      let t = before-total a.classes b.classes in let s = same-sym a.classes b.classes in grind (arith, nat_tests);
  equal = λ a b s.
      let e = is_definition-equal a.selector a.classes (record { selector = b.selector; classes = b.classes; body = 0 }) s in
      rw (sym e.0, sym e.1) refl;
  reflexive = λ a. let r = same_list-self a.classes in grind (arith, nat_tests);
}

-- the list ascends with one definition more, and with some left out
pub insert-ascends : (d : Definition) (ds : List Definition)
    → AscendingDefinitions ds → AscendingDefinitions (insert_definition d ds)
insert-ascends d ds h = Ascends-insert key_of is_key_before is_same_key key_order d ds h

pub filter-ascends : (p : Definition → Bool) (ds : List Definition)
    → AscendingDefinitions ds → AscendingDefinitions (filter p ds)
filter-ascends p ds h = Ascends-filter key_of is_key_before is_same_key key_order p ds h

-- no selector is defined twice at the same classes
pub defined-once : (selector : ℕ) (classes : List ℕ) (ds : List Definition) → AscendingDefinitions ds → count_by (is_definition selector classes) ds ≤ 1
defined-once selector classes ds h = stands_once key_of is_key_before is_same_key key_order (record { selector = selector; classes = classes }) ds h
