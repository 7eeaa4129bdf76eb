-- The walk over the queries whose cells may differ leaves none of them out.
use Rattle.std.proofs.Common.{◌≡◌, ℕ, zero, suc, ◌+◌, ◌-◌, ◌<◌, Bool, true, false, ◌==◌, ◌&&◌, ◌||◌, eqb-true, IsTrue, List, [], ◌∷◌, ◌++◌, length, filter, take, inl, refl, sym, ap, subst, ◌∙◌, arith, append_assoc}
use Rattle.std.specs.List.{list_any}
use Rattle.std.proofs.lemmas.Bool.{false≢true, and_parts, and_from}
use Rattle.dt_graph.specs.Graph.{Link, has_number}
use Rattle.dt_graph.specs.Below.{is_below}
use Rattle.dt_graph.specs.Lawful.{AscendingNumbers}
use Rattle.dt_graph.specs.declared.limits.TheConstants.{CLASSES}
use Rattle.dt_graph.proofs.AscendingSets.{same_truth, same_numbers}
use Rattle.dt_graph.proofs.Ascending.{AscendingNumbers-filter}
use Rattle.dt_graph.proofs.Effects.{has_number-filtered}
use Rattle.dt_graph.proofs.ListMembers.{by_cases, In, list_any-map}
use Rattle.dt_definitions.specs.Program.{Definition, Program, definitions_of}
use Rattle.dt_definitions.specs.SelectorLists.{with_selector}
use Rattle.dt_definitions.specs.declared.defined.Defined.{Defined}
use Rattle.dt_definitions.specs.declared.definition_key.DefinitionKey.{DefinitionKey}
use Rattle.dt_scratch.specs.Query.{Query}
use Rattle.dt_propagate.specs.Boxes.{in_turn}
use Rattle.dt_propagate.specs.Differences.{Differs}
use Rattle.dt_propagate.specs.GoneThrough.{all_classes, told_after}
use Rattle.dt_propagate.specs.Walk.{goes_on, goes_on_defined, goes_on_redefined, goes_on_in, goes_next, is_any_above, is_unmarked, GoesThroughAll, told_change}
use Rattle.dt_propagate.specs.declared.near.Near.{Near}
use Rattle.dt_propagate.proofs.GoneThrough.{classes_ascend, class_listed, class_below, told_from}
use Rattle.dt_propagate.proofs.Leaf.{told_once, told_differs}

-- ---- the classes that go on

pub defined_is : (program : Program) (selector : ℕ) (nears : List Near) (defined : List Defined) (prefix : List ℕ) (n : ℕ) →
    with_selector selector defined ≡ definitions_of program selector →
    list_any (λ d. goes_on program.graph.links nears false d.classes prefix n) defined ≡ goes_on_defined program selector nears prefix n
defined_is program selector nears defined prefix n e =
    sym (list_any-map (λ (d : Defined). record { selector = selector; classes = d.classes; body = d.body })
    (λ (d : Definition). goes_on program.graph.links nears false d.classes prefix n) defined)
    ∙ ap (list_any (λ (d : Definition). goes_on program.graph.links nears false d.classes prefix n)) e

-- ---- classes that don't go on may be passed over

turns_filtered : {T : Type 0} (f : ℕ → List T) (test : ℕ → Bool) (cs : List ℕ) → ((c : ℕ) → IsTrue (has_number cs c) → test c ≡ false → f c ≡ []) →
    in_turn f (filter test cs) ≡ in_turn f cs
turns_filtered f test [] none = refl
turns_filtered f test (c ∷ cs) none =
    let rest = turns_filtered f test cs (λ d i t. none d (grind (arith, i)) t) in
    by_cases (test c)
    (λ t. rw t (ap (λ xs. f c ++ xs) rest))
    (λ t. rw (t, none c (grind arith) t) rest)

pub empty_list : {T : Type 0} (xs : List T) → ((x : T) → In xs x → ⊥) → xs ≡ []
empty_list [] none = refl
empty_list (x ∷ xs) none = absurd (none x (inl refl))

or_assoc : (a b c : Bool) → ((a || b) || c) ≡ (a || (b || c))
or_assoc a b c = grind arith

-- the sets of a program, one after the other
pub inserted_next : (program : Program) (selector : ℕ) (keys : List DefinitionKey) (nears : List Near) (defined : List Defined) (prefix : List ℕ) (n : ℕ)
    (before middle after : Bool) → with_selector selector defined ≡ definitions_of program selector →
    middle ≡ (before || list_any (λ d. goes_on program.graph.links nears false d.classes prefix n) defined) →
    after ≡ (middle || goes_on_redefined program selector keys nears prefix n) →
    after ≡ (before || goes_on_in program selector keys nears prefix n)
inserted_next program selector keys nears defined prefix n before middle after e m a =
    a ∙ ap (λ b. b || goes_on_redefined program selector keys nears prefix n)
    (m ∙ ap (λ b. before || b) (defined_is program selector nears defined prefix n e))
    ∙ or_assoc before (goes_on_defined program selector nears prefix n) (goes_on_redefined program selector keys nears prefix n)

module _ {T : Type 0} (told : Query → List T) (selector : ℕ) where
  -- what is told after the prefix is told after the classes of the set, where nothing is told after any other
  pub more_told : (more : ℕ) (prefix next : List ℕ) → AscendingNumbers next → ((n : ℕ) → IsTrue (has_number next n) → n < CLASSES) →
      ((class : ℕ) → class < CLASSES → has_number next class ≡ false → told_after told selector (more - 1) (prefix ++ class ∷ []) ≡ []) →
      (more ≡ 0 → ⊥) →
      told_after told selector more prefix ≡ in_turn (λ class. told_after told selector (more - 1) (prefix ++ class ∷ [])) next
  more_told zero prefix next ascend low none some = absurd (some refl)
  more_told (suc k) prefix next ascend low none some =
      let e : suc k - 1 ≡ k = omega arith in
      let f : ℕ → List T = λ class. told_after told selector k (prefix ++ class ∷ []) in
      let g : ℕ → List T = λ class. told_after told selector (suc k - 1) (prefix ++ class ∷ []) in
      let is : next ≡ filter (has_number next) all_classes =
      same_numbers next (filter (has_number next) all_classes) ascend (AscendingNumbers-filter (has_number next) all_classes classes_ascend)
      (λ n. same_truth (has_number next n) (has_number (filter (has_number next) all_classes) n)
      (λ i. has_number-filtered (has_number next) all_classes n
      ∙ and_from (has_number all_classes n) (has_number next n) (class_listed n (low n i)) i)
      (λ i. (and_parts (has_number all_classes n) (has_number next n) (sym (has_number-filtered (has_number next) all_classes n) ∙ i)).1)) in
      let same : in_turn g next ≡ in_turn f next = ap (λ m. in_turn (λ class. told_after told selector m (prefix ++ class ∷ [])) next) e in
      sym (same ∙ ap (in_turn f) is ∙ turns_filtered f (has_number next) all_classes
      (λ class i t. ap (λ m. told_after told selector m (prefix ++ class ∷ [])) (sym e) ∙ none class (class_below class i) t))

-- nothing is told after a class that doesn't go on
pub nothing_told : (old new : Program) (selector : ℕ) (keys : List DefinitionKey) (nears : List Near) → GoesThroughAll old new selector keys nears →
    (k : ℕ) (prefix : List ℕ) (class : ℕ) → goes_next old new selector keys nears prefix class ≡ false →
    told_after (told_change old new) selector k (prefix ++ class ∷ []) ≡ []
nothing_told old new selector keys nears all k prefix class not =
    empty_list (told_after (told_change old new) selector k (prefix ++ class ∷ [])) (λ x i.
    let a = told_from (λ change. change.query) (told_change old new) (told_once old new) selector k (prefix ++ class ∷ []) x i in
    let d = (told_differs old new (record { selector = selector; classes = (prefix ++ class ∷ []) ++ a.rest }) x a.there).0 in
    let d' = subst (λ classes. Differs old new (record { selector = selector; classes = classes })) (append_assoc prefix (class ∷ []) a.rest) d in
    false≢true (sym not ∙ all prefix class a.rest d'))

pub take_pushed : (xs : List ℕ) (x : ℕ) → take (length (xs ++ x ∷ []) - 1) (xs ++ x ∷ []) ≡ xs
take_pushed xs x = let e : length (xs ++ x ∷ []) - 1 ≡ length xs = omega (arith, length-push xs) in
    ap (λ n. take n (xs ++ x ∷ [])) e ∙ front xs
  where
    length-push : (xs : List ℕ) → length (xs ++ x ∷ []) ≡ length xs + 1
    length-push [] = refl
    length-push (y ∷ ys) = omega (arith, length-push ys)

    front : (xs : List ℕ) → take (length xs) (xs ++ x ∷ []) ≡ xs
    front [] = refl
    front (y ∷ ys) = ap (λ zs. y ∷ zs) (front ys)

-- ---- where nothing is marked

none_listed : (xs : List ℕ) (n : ℕ) → length xs ≡ 0 → has_number xs n ≡ false
none_listed [] n e = refl
none_listed (x ∷ xs) n e = absurd (omega (arith, e))

unmarked_parts : (near : Near) (nears : List Near) → is_unmarked (near ∷ nears) ≡ true →
    (length near.marked ≡ 0) × (length near.above ≡ 0) × (is_unmarked nears ≡ true)
unmarked_parts near nears t =
    let first = and_parts (length near.marked == 0) ((length near.above == 0) && is_unmarked nears) t in
    let rest = and_parts (length near.above == 0) (is_unmarked nears) first.1 in
    (eqb-true (length near.marked) 0 first.0, eqb-true (length near.above) 0 rest.0, rest.1)

none_above : (nears : List Near) (highs : List ℕ) → is_unmarked nears ≡ true → is_any_above nears highs ≡ false
none_above [] highs t = refl
none_above (near ∷ nears) [] t = refl
none_above (near ∷ nears) (high ∷ highs) t =
    let parts = unmarked_parts near nears t in
    rw (none_listed near.above high parts.1, none_above nears highs parts.2) refl

and_nothing : (a : Bool) → (a && false) ≡ false
and_nothing a = grind arith

unmarked_goes : (links : List Link) (nears : List Near) (highs prefix : List ℕ) (class : ℕ) → is_unmarked nears ≡ true →
    goes_on links nears false highs prefix class ≡ false
unmarked_goes links [] highs prefix class t = refl
unmarked_goes links (near ∷ nears) [] prefix class t = refl
unmarked_goes links (near ∷ nears) (high ∷ highs) [] class t =
    let parts = unmarked_parts near nears t in
    rw (none_above nears highs parts.2, none_listed near.marked class parts.0) (and_nothing (is_below links class high))
unmarked_goes links (near ∷ nears) (high ∷ highs) (first ∷ prefix) class t =
    let parts = unmarked_parts near nears t in
    rw (none_listed near.marked first parts.0, unmarked_goes links nears highs prefix class parts.2) (and_nothing (is_below links first high))

unmarked_defined : (program : Program) (selector : ℕ) (nears : List Near) (prefix : List ℕ) (n : ℕ) → is_unmarked nears ≡ true →
    goes_on_defined program selector nears prefix n ≡ false
unmarked_defined program selector nears prefix n t = along (definitions_of program selector)
  where
    along : (definitions : List Definition) → list_any (λ d. goes_on program.graph.links nears false d.classes prefix n) definitions ≡ false
    along [] = refl
    along (d ∷ definitions) = rw (unmarked_goes program.graph.links nears d.classes prefix n t) (along definitions)

-- a class goes on below the keys alone
pub unmarked_next : (old new : Program) (selector : ℕ) (keys : List DefinitionKey) (nears : List Near) (prefix : List ℕ) (n : ℕ)
    (before middle after : Bool) → is_unmarked nears ≡ true → before ≡ false →
    middle ≡ (before || goes_on_redefined old selector keys nears prefix n) →
    after ≡ (middle || goes_on_redefined new selector keys nears prefix n) →
    after ≡ goes_next old new selector keys nears prefix n
unmarked_next old new selector keys nears prefix n before middle after t none m a =
    rw (unmarked_defined old selector nears prefix n t, unmarked_defined new selector nears prefix n t)
    (a ∙ ap (λ b. b || goes_on_redefined new selector keys nears prefix n) (m ∙ ap (λ b. b || goes_on_redefined old selector keys nears prefix n) none))
