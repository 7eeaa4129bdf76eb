-- The walk counts the lists of classes that begin below the definitions of a selector.
use Rattle.std.proofs.Common.{◌≡◌, ◌==◌, ℕ, ◌+◌, ◌-◌, ◌<◌, ◌≤◌, true, false, ◌&&◌, IsTrue, List, [], ◌∷◌, ◌++◌, length, None, Some, inl, inr, refl, sym, ap, ◌∙◌, arith, eq-eqb}
use Rattle.std.specs.Prelude.{nat_le}
use Rattle.std.specs.List.{list_any, sum_by}
use Rattle.std.proofs.lemmas.Bool.{false≢true, and_parts, and_from, or_left, or_right}
use Rattle.std.proofs.lemmas.Bool.Decides.{nat_tests}
use Rattle.std.proofs.lemmas.List.Sums.{sum_by-cons}
use Rattle.dt_graph.specs.Graph.{Link, has_number}
use Rattle.dt_graph.specs.Below.{is_below}
use Rattle.dt_graph.specs.Lawful.{AscendingNumbers}
use Rattle.dt_graph.specs.declared.limits.TheConstants.{CLASSES}
use Rattle.dt_graph.proofs.AscendingSets.{and_true}
use Rattle.dt_graph.proofs.ListMembers.{by_cases, any_from_In, In, In-from_any, list_any-map, list_any_agree_in}
use Rattle.dt_definitions.specs.Program.{Definition, Program, definitions_of}
use Rattle.dt_definitions.specs.SelectorLists.{with_selector, definition_of}
use Rattle.dt_definitions.specs.declared.defined.Defined.{Defined}
use Rattle.dt_scratch.specs.Query.{Query}
use Rattle.dt_propagate.specs.Begun.{begins, is_begun_query, told_begun, goes_begun, up_to}
use Rattle.dt_propagate.specs.Boxes.{in_turn}
use Rattle.dt_propagate.specs.GoneThrough.{told_after}
use Rattle.dt_propagate.proofs.BoxSizes.{length-both}
use Rattle.dt_propagate.proofs.GoneThrough.{TellsOnce, told_from}
use Rattle.dt_propagate.proofs.WalkSteps.{empty_list, more_told}

-- ---- what begins

module _ (links : List Link) where
  goes_is : (highs prefix : List ℕ) (class : ℕ) → goes_begun links highs prefix class ≡ begins links (prefix ++ class ∷ []) highs
  goes_is [] [] class = refl
  goes_is [] (first ∷ prefix) class = refl
  goes_is (high ∷ highs) [] class = sym (and_true (is_below links class high) true refl)
  goes_is (high ∷ highs) (first ∷ prefix) class = ap (λ b. is_below links first high && b) (goes_is highs prefix class)

  begins_before : (first rest highs : List ℕ) → begins links (first ++ rest) highs ≡ true → begins links first highs ≡ true
  begins_before [] rest highs h = refl
  begins_before (class ∷ first) rest [] h = absurd (false≢true h)
  begins_before (class ∷ first) rest (high ∷ highs) h =
      let parts = and_parts (is_below links class high) (begins links (first ++ rest) highs) h in
      and_from (is_below links class high) (begins links first highs) parts.0 (begins_before first rest highs parts.1)

module _ (program : Program) (selector : ℕ) where
  abbrev at : List ℕ → Query
  at classes = record { selector = selector; classes = classes }

  abbrev links : List Link
  links = program.graph.links

  pub begun_is : (defined : List Defined) (prefix : List ℕ) (class : ℕ) → with_selector selector defined ≡ definitions_of program selector →
      list_any (λ d. goes_begun links d.classes prefix class) defined ≡ is_begun_query program (at (prefix ++ class ∷ []))
  begun_is defined prefix class e =
      sym (list_any-map (definition_of selector) (λ (d : Definition). goes_begun links d.classes prefix class) defined)
      ∙ ap (list_any (λ (d : Definition). goes_begun links d.classes prefix class)) e
      ∙ list_any_agree_in (λ (d : Definition). goes_begun links d.classes prefix class) (λ (d : Definition). begins links (prefix ++ class ∷ []) d.classes)
      (definitions_of program selector) (λ d i. goes_is links d.classes prefix class)

  begun_before : (first rest : List ℕ) → is_begun_query program (at (first ++ rest)) ≡ true → is_begun_query program (at first) ≡ true
  begun_before first rest h =
      let d = In-from_any (λ d. begins links (first ++ rest) d.classes) (definitions_of program selector) h in
      any_from_In (λ d. begins links first d.classes) (definitions_of program selector) d.0 d.1 (begins_before links first rest d.0.classes d.2)

abbrev itself : Query → Query
itself query = query

pub begun_once : (program : Program) → TellsOnce itself (told_begun program)
begun_once program query = by_cases (is_begun_query program query)
    (λ t. inr (query, rw t refl, refl))
    (λ f. inl (rw f refl))

pub told_is_begun : (program : Program) (query x : Query) → In (told_begun program query) x → is_begun_query program query ≡ true
told_is_begun program query x i = by_cases (is_begun_query program query)
    (λ t. t)
    (λ f. let j : In {T = Query} [] x = rw f at i in absurd j)

pub nothing_begun : (program : Program) (selector k : ℕ) (prefix : List ℕ) → is_begun_query program (record { selector = selector; classes = prefix }) ≡ false →
    told_after (told_begun program) selector k prefix ≡ []
nothing_begun program selector k prefix not =
    empty_list (told_after (told_begun program) selector k prefix) (λ x i.
    let a = told_from itself (told_begun program) (begun_once program) selector k prefix x i in
    let t = told_is_begun program (record { selector = selector; classes = prefix ++ a.rest }) x a.there in
    false≢true (sym not ∙ begun_before program selector prefix a.rest t))

-- ---- sums

pub turns_length : {T : Type 0} (f : ℕ → List T) (cs : List ℕ) → length (in_turn f cs) ≡ sum_by (λ c. length (f c)) cs
turns_length f [] = refl
turns_length f (c ∷ cs) = length-both (f c) (in_turn f cs) ∙ ap (λ n. length (f c) + n) (turns_length f cs) ∙ sym (sum_by-cons (λ c. length (f c)) c cs)

ones : (f : ℕ → ℕ) (cs : List ℕ) → ((c : ℕ) → IsTrue (has_number cs c) → f c ≡ 1) → sum_by f cs ≡ length cs
ones f [] h = refl
ones f (c ∷ cs) h =
    let e = sum_by-cons f c cs in
    let one = h c (or_left (c == c) (has_number cs c) (eq-eqb c c refl)) in
    let rest = ones f cs (λ d i. h d (or_right (c == d) (has_number cs d) i)) in
    omega (arith, e, one, rest)

module _ (program : Program) (selector : ℕ) (prefix next : List ℕ) (ascend : AscendingNumbers next)
    (low : (n : ℕ) → IsTrue (has_number next n) → n < CLASSES)
    (next_is : (n : ℕ) → has_number next n ≡ is_begun_query program (record { selector = selector; classes = prefix ++ n ∷ [] })) where
  abbrev part : ℕ → ℕ → List Query
  part more class = told_after (told_begun program) selector (more - 1) (prefix ++ class ∷ [])

  pub whole : (more : ℕ) → (more ≡ 0 → ⊥) → length (told_after (told_begun program) selector more prefix) ≡ sum_by (λ c. length (part more c)) next
  whole more some =
      ap length (more_told (told_begun program) selector more prefix next ascend low
      (λ class under not. nothing_begun program selector (more - 1) (prefix ++ class ∷ []) (sym (next_is class) ∙ not)) some)
      ∙ turns_length (part more) next

  pub last : (more : ℕ) → more ≡ 1 → length (told_after (told_begun program) selector more prefix) ≡ length next
  last more one =
      whole more (λ none. absurd (omega (arith, one, none)))
      ∙ ones (λ c. length (part more c)) next (λ c i.
      let e : more - 1 ≡ 0 = omega (arith, one) in
      ap (λ k. length (told_after (told_begun program) selector k (prefix ++ c ∷ []))) e ∙ single c (sym (next_is c) ∙ i))
    where
      single : (c : ℕ) → is_begun_query program (record { selector = selector; classes = prefix ++ c ∷ [] }) ≡ true →
          length (told_begun program (record { selector = selector; classes = prefix ++ c ∷ [] })) ≡ 1
      single c t = rw t refl

-- ---- up to a limit

pub up_to_some : (most n count : ℕ) → up_to most n ≡ Some count → (n ≡ count) × (n ≤ most)
up_to_some most n count e = by_cases (nat_le n most)
    (λ t. let f : Some n ≡ Some count = rw t at e in (cc, grind (arith, nat_tests)))
    (λ f. let g : None ≡ Some count = rw f at e in absurd (cc))

pub up_to_none : (most n : ℕ) → up_to most n ≡ None → most < n
up_to_none most n e = by_cases (nat_le n most)
    (λ t. let f : Some n ≡ None = rw t at e in absurd (cc))
    (λ f. grind (arith, nat_tests))

pub up_to_few : (most n : ℕ) → n ≤ most → up_to most n ≡ Some n
up_to_few most n few = let t : nat_le n most ≡ true = grind (arith, nat_tests) in rw t refl

pub up_to_many : (most n : ℕ) → most < n → up_to most n ≡ None
up_to_many most n many = let f : nat_le n most ≡ false = grind (arith, nat_tests) in rw f refl
