-- Marks for each position: what the definitions of a selector name there.
use Rattle.std.proofs.Common.{◌≡◌, ◌==◌, ℕ, zero, suc, ◌<◌, ◌≤◌, Bool, false, not, ◌&&◌, ◌||◌, IsTrue, List, [], ◌∷◌, length, get_or, refl, sym, ap, ◌∙◌, arith}
use Rattle.std.specs.List.{list_any}
use Rattle.std.proofs.lemmas.Bool.{false≢true, false_from_ne_true, or_parts, and_from}
use Rattle.dt_graph.specs.Graph.{has_number}
use Rattle.dt_graph.specs.Below.{is_below}
use Rattle.dt_graph.proofs.ListMembers.{by_cases, any_listed, list_any-map}
use Rattle.dt_definitions.specs.Program.{Definition, Program, definitions_of}
use Rattle.dt_definitions.specs.SelectorLists.{with_selector, definition_of}
use Rattle.dt_definitions.specs.declared.defined.Defined.{Defined}
use Rattle.dt_definitions.specs.declared.definition_key.DefinitionKey.{DefinitionKey}
use Rattle.dt_propagate.specs.Marks.{has_at, names_at, is_named_at, is_below_in, is_moved, DifferBelow, NearTells}

pub at_some : (classes : List ℕ) (position class n : ℕ) → position < length classes → class ≡ get_or classes position class →
    has_at classes position n ≡ (class == n)
at_some [] position class n low e = absurd (omega (arith, low))
at_some (x ∷ classes) zero class n low e = ap (λ y. y == n) (sym e)
at_some (x ∷ classes) (suc position) class n low e = at_some classes position class n (omega (arith, low)) e

pub at_none : (classes : List ℕ) (position n : ℕ) → length classes ≤ position → has_at classes position n ≡ false
at_none [] position n high = refl
at_none (x ∷ classes) zero n high = absurd (omega (arith, high))
at_none (x ∷ classes) (suc position) n high = at_none classes position n (omega (arith, high))

pub or_turned : (a b : Bool) → (a || b) ≡ (b || a)
or_turned a b = grind arith

pub or_nothing : (a b : Bool) → b ≡ false → a ≡ (a || b)
or_nothing a b none = grind (arith, none)

pub names_is : (program : Program) (selector position : ℕ) (defined : List Defined) (n : ℕ) →
    with_selector selector defined ≡ definitions_of program selector →
    list_any (λ d. has_at d.classes position n) defined ≡ names_at program selector position n
names_is program selector position defined n e =
    sym (list_any-map (definition_of selector) (λ (d : Definition). has_at d.classes position n) defined)
    ∙ ap (list_any (λ (d : Definition). has_at d.classes position n)) e

pub not_moved : (a b : Bool) → ((a && not b) || (b && not a)) ≡ false → a ≡ b
not_moved a b h = grind (arith, h)

module _ (old new : Program) (selector position : ℕ) (keys : List DefinitionKey) (moved named seen changed both marked above : List ℕ)
    (differ : DifferBelow old new keys moved)
    (named_is : (n : ℕ) → has_number named n ≡ is_named_at old new selector position n)
    (seen_is : (n : ℕ) → has_number seen n ≡ (has_number named n && has_number moved n))
    (changed_is : (n : ℕ) → has_number changed n ≡ list_any (λ high. is_moved old.graph.links new.graph.links n high) seen)
    (both_is : (n : ℕ) → has_number both n ≡ (has_number changed n && has_number named n))
    (marked_is : (n : ℕ) → has_number marked n ≡ (has_number changed n || list_any (λ class. is_below old.graph.links n class) both))
    (above_is : 0 < position → (n : ℕ) → has_number above n ≡ list_any (λ class. is_below_in old.graph.links new.graph.links class n) marked) where
  stays : (low high : ℕ) → has_number changed low ≡ false → IsTrue (has_number named high) →
      is_below old.graph.links low high ≡ is_below new.graph.links low high
  stays low high not there = by_cases (has_number moved high)
      (λ t. not_moved (is_below old.graph.links low high) (is_below new.graph.links low high)
      (false_from_ne_true (is_moved old.graph.links new.graph.links low high) (λ m.
      false≢true (sym not ∙ changed_is low ∙ any_listed (λ high. is_moved old.graph.links new.graph.links low high) seen high
      (seen_is high ∙ and_from (has_number named high) (has_number moved high) there t) m))))
      (λ f. differ.others low high f)

  pub near_tells : NearTells old new selector position (record { marked = marked; above = above })
  near_tells = record {
    same_above = λ class high unmarked there.
        stays class high (or_parts (has_number changed class) _ (sym (marked_is class) ∙ unmarked)).0 (named_is high ∙ there);
    same_order = λ class a b unmarked na nb below.
        let none = (or_parts (has_number changed class) _ (sym (marked_is class) ∙ unmarked)).1 in
        by_cases (has_number changed a)
        (λ t. absurd (false≢true (sym none
        ∙ any_listed (λ high. is_below old.graph.links class high) both a
        (both_is a ∙ and_from (has_number changed a) (has_number named a) t (named_is a ∙ na)) below)))
        (λ f. stays a b f (named_is b ∙ nb));
    listed_above = λ later class high there below.
        above_is later high ∙ any_listed (λ low. is_below_in old.graph.links new.graph.links low high) marked class there below;
  }

pub both_named : (nothing middle after first second old new : Bool) → nothing ≡ false → middle ≡ (nothing || first) → after ≡ (middle || second) →
    first ≡ old → second ≡ new → after ≡ (old || new)
both_named nothing middle after first second old new none m a f s = grind (arith, none, m, a, f, s)

none_listed : (xs : List ℕ) (n : ℕ) → length xs ≡ 0 → has_number xs n ≡ false
none_listed [] n e = refl
none_listed (x ∷ xs) n e = absurd (omega (arith, e))

-- where no class that moved is named there, none need be marked
pub nothing_seen : (old new : Program) (selector position : ℕ) (keys : List DefinitionKey) (moved marked above : List ℕ) →
    DifferBelow old new keys moved → ((n : ℕ) → IsTrue (is_named_at old new selector position n) → has_number moved n ≡ false) → marked ≡ [] →
    NearTells old new selector position (record { marked = marked; above = above })
nothing_seen old new selector position keys moved marked above differ none m = record {
  same_above = λ class high unmarked there. differ.others class high (none high there);
  same_order = λ class a b unmarked na nb below. differ.others a b (none b nb);
  listed_above = λ later class high there below. absurd (false≢true (sym (ap (λ xs. has_number xs class) m) ∙ there));
}

pub none_seen : (old new : Program) (selector position : ℕ) (moved named seen : List ℕ) →
    ((n : ℕ) → has_number named n ≡ is_named_at old new selector position n) →
    ((n : ℕ) → has_number seen n ≡ (has_number named n && has_number moved n)) → length seen ≡ 0 →
    (n : ℕ) → IsTrue (is_named_at old new selector position n) → has_number moved n ≡ false
none_seen old new selector position moved named seen named_is seen_is none n there =
    false_from_ne_true (has_number moved n) (λ t.
    false≢true (sym (none_listed seen n none) ∙ seen_is n ∙ and_from (has_number named n) (has_number moved n) (named_is n ∙ there) t))

pub nothing_moved : (old new : Program) (selector position : ℕ) (keys : List DefinitionKey) (moved marked above : List ℕ) →
    DifferBelow old new keys moved → length moved ≡ 0 → marked ≡ [] →
    NearTells old new selector position (record { marked = marked; above = above })
nothing_moved old new selector position keys moved marked above differ none m =
    nothing_seen old new selector position keys moved marked above differ (λ n there. none_listed moved n none) m
