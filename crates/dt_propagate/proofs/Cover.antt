-- By marks that tell, each class of a query whose cells differ goes on from those before it.
use Rattle.std.proofs.Common.{filter, ◌≡◌, ◌==◌, ℕ, zero, suc, ◌+◌, ◌<◌, ◌≤◌, Bool, true, false, ◌&&◌, ◌||◌, IsTrue, List, [], ◌∷◌, ◌++◌, length, ⊎_elim, refl, sym, ap, subst, ◌∙◌, arith, eqb-true, eq-eqb}
use Rattle.std.proofs.lemmas.Bool.{false≢true, and_parts, and_from, or_cases, or_left, or_right}
use Rattle.dt_graph.specs.Graph.{Link, has_number}
use Rattle.dt_graph.specs.Below.{is_below}
use Rattle.dt_graph.proofs.ListMembers.{by_cases, any_from_In, In, In-from_any, In-filter, In-from_filter, In-from_Contains}
use Rattle.dt_selectors.proofs.Arities.{live_in_range}
use Rattle.dt_definitions.specs.Program.{Definition, Program, definitions_of, is_definition, same_classes}
use Rattle.dt_definitions.specs.Lawful.{Lawful}
use Rattle.dt_definitions.specs.Differing.{is_at_any}
use Rattle.dt_definitions.specs.declared.definition_key.DefinitionKey.{DefinitionKey}
use Rattle.dt_graph.proofs.SameLists.{same_list_equal}
use Rattle.dt_scratch.specs.Query.{Query}
use Rattle.dt_scratch.specs.Resolve.{are_below, applicable}
use Rattle.dt_propagate.specs.FinerMarks.{is_marked, are_named, NamesAll, MarksTell, is_marked_candidate}
use Rattle.dt_propagate.specs.Marks.{has_at, names_at, is_named_at, DifferBelow, NearsTell}
use Rattle.dt_propagate.specs.Walk.{is_any_above, goes_on, goes_on_defined, goes_on_redefined, goes_on_in, GoesThroughAll, goes_next}
use Rattle.dt_propagate.specs.declared.near.Near.{Near}
use Rattle.dt_propagate.proofs.Counts.{own}
use Rattle.dt_propagate.proofs.FinerMarks.{finer_marks_serve}

-- ---- one list of links

-- whether one of the classes is marked at its position
abbrev meets_mark : List Near → List ℕ → Bool
meets_mark [] classes = false
meets_mark (near ∷ nears) [] = false
meets_mark (near ∷ nears) (class ∷ classes) = has_number near.marked class || meets_mark nears classes

-- all above marked classes are listed
abbrev AboveListed : List Link → List Near → Type 0
AboveListed links [] = Unit {0}
AboveListed links (near ∷ nears) =
    ((class high : ℕ) → IsTrue (has_number near.marked class) → IsTrue (is_below links class high) → IsTrue (has_number near.above high))
    × AboveListed links nears

-- and so from the second position on
abbrev LaterListed : List Link → List Near → Type 0
LaterListed links [] = Unit {0}
LaterListed links (near ∷ nears) = AboveListed links nears

later_listed : (links : List Link) (nears : List Near) → AboveListed links nears → LaterListed links nears
later_listed links [] listed = tt
later_listed links (near ∷ nears) listed = listed.1

module _ (links : List Link) where
  above_met : (nears : List Near) (classes highs : List ℕ) → AboveListed links nears → are_below links classes highs ≡ true →
      meets_mark nears classes ≡ true → is_any_above nears highs ≡ true
  above_met [] classes highs listed below met = absurd (false≢true met)
  above_met (near ∷ nears) [] highs listed below met = absurd (false≢true met)
  above_met (near ∷ nears) (class ∷ classes) [] listed below met = absurd (false≢true below)
  above_met (near ∷ nears) (class ∷ classes) (high ∷ highs) listed below met =
      let parts = and_parts (is_below links class high) (are_below links classes highs) below in
      ⊎_elim
      (λ here. or_left (has_number near.above high) (is_any_above nears highs) (listed.0 class high here parts.0))
      (λ later. or_right (has_number near.above high) (is_any_above nears highs) (above_met nears classes highs listed.1 parts.1 later))
      (or_cases (has_number near.marked class) (meets_mark nears classes) met)

  not_below_none : (prefix : List ℕ) (class : ℕ) (rest : List ℕ) → are_below links (prefix ++ class ∷ rest) [] ≡ true → ⊥
  not_below_none [] class rest h = false≢true h
  not_below_none (first ∷ prefix) class rest h = false≢true h

  met_next : (is_met marked rest above : Bool) → (is_met || (marked || rest)) ≡ true → (rest ≡ true → above ≡ true) →
      ((is_met || above) || marked) ≡ true
  met_next true marked rest above h to = refl
  met_next false true rest above h to = or_right above true refl
  met_next false false rest above h to = or_left above false (to h)

  met_before : (is_met marked rest : Bool) → (is_met || (marked || rest)) ≡ true → ((is_met || marked) || rest) ≡ true
  met_before true marked rest h = refl
  met_before false marked rest h = h

  goes : (nears : List Near) (is_met : Bool) (highs prefix : List ℕ) (class : ℕ) (rest : List ℕ) → length highs ≤ length nears →
      LaterListed links nears → are_below links (prefix ++ class ∷ rest) highs ≡ true →
      (is_met || meets_mark nears (prefix ++ class ∷ rest)) ≡ true → goes_on links nears is_met highs prefix class ≡ true
  goes nears is_met [] prefix class rest few listed below met = absurd (not_below_none prefix class rest below)
  goes [] is_met (high ∷ highs) prefix class rest few listed below met = absurd (omega (arith, few))
  goes (near ∷ nears) is_met (high ∷ highs) [] class rest few listed below met =
      let parts = and_parts (is_below links class high) (are_below links rest highs) below in
      and_from (is_below links class high) ((is_met || is_any_above nears highs) || has_number near.marked class) parts.0
      (met_next is_met (has_number near.marked class) (meets_mark nears rest) (is_any_above nears highs) met
      (λ later. above_met nears rest highs listed parts.1 later))
  goes (near ∷ nears) is_met (high ∷ highs) (first ∷ prefix) class rest few listed below met =
      let parts = and_parts (is_below links first high) (are_below links (prefix ++ class ∷ rest) highs) below in
      and_from (is_below links first high) (goes_on links nears (is_met || has_number near.marked first) highs prefix class) parts.0
      (goes nears (is_met || has_number near.marked first) highs prefix class rest (omega (arith, few)) (later_listed links nears listed) parts.1
      (met_before is_met (has_number near.marked first) (meets_mark nears (prefix ++ class ∷ rest)) met))

-- ---- marks by their position

abbrev marked_at : List Near → ℕ → ℕ → Bool
marked_at [] position class = false
marked_at (near ∷ nears) zero class = has_number near.marked class
marked_at (near ∷ nears) (suc position) class = marked_at nears position class

none_marked : (position : ℕ) (classes : List ℕ) → is_marked (marked_at []) position classes ≡ false
none_marked position [] = refl
none_marked position (class ∷ classes) = none_marked (position + 1) classes

later_marked : (near : Near) (nears : List Near) (position : ℕ) (classes : List ℕ) →
    is_marked (marked_at (near ∷ nears)) (position + 1) classes ≡ is_marked (marked_at nears) position classes
later_marked near nears position [] = refl
later_marked near nears position (class ∷ classes) =
    let e : position + 1 ≡ suc position = omega arith in
    let here : marked_at (near ∷ nears) (position + 1) class ≡ marked_at nears position class = ap (λ i. marked_at (near ∷ nears) i class) e in
    rw (here, later_marked near nears (position + 1) classes) refl

marked_is : (nears : List Near) (classes : List ℕ) → is_marked (marked_at nears) 0 classes ≡ meets_mark nears classes
marked_is [] classes = none_marked 0 classes
marked_is (near ∷ nears) [] = refl
marked_is (near ∷ nears) (class ∷ classes) =
    ap (λ b. has_number near.marked class || b) (later_marked near nears 0 classes ∙ marked_is nears classes)

-- ---- names by their position

at_low : (classes : List ℕ) (position class : ℕ) → has_at classes position class ≡ true → position < length classes
at_low [] position class h = absurd (false≢true h)
at_low (x ∷ classes) zero class h = omega arith
at_low (x ∷ classes) (suc position) class h = let low = at_low classes position class h in omega (arith, low)

named_from : (named : ℕ → ℕ → Bool) (classes : List ℕ) (position : ℕ) →
    ((i at class : ℕ) → at ≡ position + i → has_at classes i class ≡ true → named at class ≡ true) → IsTrue (are_named named position classes)
named_from named [] position h = refl
named_from named (class ∷ classes) position h =
    and_from (named position class) (are_named named (position + 1) classes)
    (h 0 position class (omega arith) (eq-eqb class class refl))
    (named_from named classes (position + 1) (λ i at other e there. h (suc i) at other (omega (arith, e)) there))

-- ---- two programs

module _ (old new : Program) (selector : ℕ) (keys : List DefinitionKey) (moved : List ℕ) (differ : DifferBelow old new keys moved) where
  abbrev named : ℕ → ℕ → Bool
  named = is_named_at old new selector

  above_old : (position : ℕ) (nears : List Near) → 0 < position → NearsTell old new selector position nears → AboveListed old.graph.links nears
  above_old position [] some tell = tt
  above_old position (near ∷ nears) some tell = (
    λ class high marked below. tell.0.listed_above some class high marked (or_left (is_below old.graph.links class high) (is_below new.graph.links class high) below),
    above_old (suc position) nears (omega arith) tell.1,
  )

  later_old : (nears : List Near) → NearsTell old new selector 0 nears → LaterListed old.graph.links nears
  later_old [] tell = tt
  later_old (near ∷ nears) tell = above_old 1 nears (omega arith) tell.1

  above_new : (position : ℕ) (nears : List Near) → 0 < position → NearsTell old new selector position nears → AboveListed new.graph.links nears
  above_new position [] some tell = tt
  above_new position (near ∷ nears) some tell = (
    λ class high marked below. tell.0.listed_above some class high marked (or_right (is_below old.graph.links class high) (is_below new.graph.links class high) below),
    above_new (suc position) nears (omega arith) tell.1,
  )

  later_new : (nears : List Near) → NearsTell old new selector 0 nears → LaterListed new.graph.links nears
  later_new [] tell = tt
  later_new (near ∷ nears) tell = above_new 1 nears (omega arith) tell.1

  same_above : (position : ℕ) (nears : List Near) → NearsTell old new selector position nears → (i at class high : ℕ) → at ≡ position + i →
      i < length nears → marked_at nears i class ≡ false → IsTrue (named at high) →
      is_below old.graph.links class high ≡ is_below new.graph.links class high
  same_above position [] tell i at class high e low unmarked there = absurd (omega (arith, low))
  same_above position (near ∷ nears) tell zero at class high e low unmarked there =
      let same : at ≡ position = omega (arith, e) in
      tell.0.same_above class high unmarked (subst (λ n. IsTrue (named n high)) same there)
  same_above position (near ∷ nears) tell (suc i) at class high e low unmarked there =
      same_above (suc position) nears tell.1 i at class high (omega (arith, e)) (omega (arith, low)) unmarked there

  same_order : (position : ℕ) (nears : List Near) → NearsTell old new selector position nears → (i at class a b : ℕ) → at ≡ position + i →
      i < length nears → marked_at nears i class ≡ false → IsTrue (named at a) → IsTrue (named at b) → is_below old.graph.links class a ≡ true →
      is_below old.graph.links a b ≡ is_below new.graph.links a b
  same_order position [] tell i at class a b e low unmarked na nb below = absurd (omega (arith, low))
  same_order position (near ∷ nears) tell zero at class a b e low unmarked na nb below =
      let same : at ≡ position = omega (arith, e) in
      tell.0.same_order class a b unmarked (subst (λ n. IsTrue (named n a)) same na) (subst (λ n. IsTrue (named n b)) same nb) below
  same_order position (near ∷ nears) tell (suc i) at class a b e low unmarked na nb below =
      same_order (suc position) nears tell.1 i at class a b (omega (arith, e)) (omega (arith, low)) unmarked na nb below

  few_classes : (program : Program) → Lawful program → (d : Definition) → In program.definitions d → length d.classes ≤ 4
  few_classes program lawful d i =
      (live_in_range program.selectors lawful.selectors d.selector (length d.classes) (own program lawful d i).arity_fits).2

  names_low : (program : Program) → Lawful program → (position class : ℕ) → names_at program selector position class ≡ true → position < 4
  names_low program lawful position class h =
      let d = In-from_any (λ d. has_at d.classes position class) (definitions_of program selector) h in
      let i = In-from_filter (λ d. d.selector == selector) program.definitions d.0 d.1 in
      let low = at_low d.0.classes position class d.2 in
      omega (arith, low, few_classes program lawful d.0 i.0)

  named_low : (position class : ℕ) → named position class ≡ true → position < 4
  named_low position class h = ⊎_elim
      (λ there. names_low old differ.old_lawful position class there)
      (λ there. names_low new differ.new_lawful position class there)
      (or_cases (names_at old selector position class) (names_at new selector position class) h)

  names : (program : Program) (d : Definition) → In program.definitions d → d.selector ≡ selector → (position class : ℕ) →
      has_at d.classes position class ≡ true → names_at program selector position class ≡ true
  names program d i e position class there =
      any_from_In (λ d. has_at d.classes position class) (definitions_of program selector) d
      (In-filter (λ d. d.selector == selector) program.definitions d i (eq-eqb d.selector selector e)) there

  pub names_old : NamesAll named selector old
  names_old d there e = named_from named d.classes 0 (λ i at class same h.
      let s : i ≡ at = omega (arith, same) in
      or_left (names_at old selector at class) (names_at new selector at class)
      (names old d (In-from_Contains old.definitions d there) e at class (subst (λ n. has_at d.classes n class ≡ true) s h)))

  pub names_new : NamesAll named selector new
  names_new d there e = named_from named d.classes 0 (λ i at class same h.
      let s : i ≡ at = omega (arith, same) in
      or_right (names_at old selector at class) (names_at new selector at class)
      (names new d (In-from_Contains new.definitions d there) e at class (subst (λ n. has_at d.classes n class ≡ true) s h)))

  module _ (nears : List Near) (four : length nears ≡ 4) (tell : NearsTell old new selector 0 nears) where
    marks_tell : MarksTell (marked_at nears) named old new
    marks_tell = record {
      same_above = λ position class high unmarked there.
          same_above 0 nears tell position position class high (omega arith) (omega (arith, four, named_low position high there)) unmarked there;
      same_order = λ position class a b unmarked na nb below.
          same_order 0 nears tell position position class a b (omega arith) (omega (arith, four, named_low position a na)) unmarked na nb below;
    }

    -- a candidate goes on in its program
    candidate_goes : (program : Program) → Lawful program → LaterListed program.graph.links nears → (prefix : List ℕ) (class : ℕ) (rest : List ℕ) →
        is_marked_candidate (marked_at nears) keys program (record { selector = selector; classes = prefix ++ class ∷ rest }) ≡ true →
        goes_on_in program selector keys nears prefix class ≡ true
    candidate_goes program lawful listed prefix class rest candidate =
        let classes : List ℕ = prefix ++ class ∷ rest in
        let query : Query = record { selector = selector; classes = classes } in
        let links = program.graph.links in
        let d = In-from_any (λ d. is_marked (marked_at nears) 0 classes || is_at_any keys d) (applicable program query) candidate in
        let i = In-from_filter (λ d. (d.selector == selector) && are_below links classes d.classes) program.definitions d.0 d.1 in
        let both = and_parts (d.0.selector == selector) (are_below links classes d.0.classes) i.1 in
        let few : length d.0.classes ≤ length nears = omega (arith, four, few_classes program lawful d.0 i.0) in
        ⊎_elim
        (λ marked.
        or_left (goes_on_defined program selector nears prefix class) (goes_on_redefined program selector keys nears prefix class)
        (any_from_In (λ d. goes_on links nears false d.classes prefix class) (definitions_of program selector) d.0
        (In-filter (λ d. d.selector == selector) program.definitions d.0 i.0 both.0)
        (goes links nears false d.0.classes prefix class rest few listed both.1 (sym (marked_is nears classes) ∙ marked))))
        (λ at.
        let k = In-from_any (λ key. is_definition key.selector key.classes d.0) keys at in
        let same = and_parts (d.0.selector == k.0.selector) (same_classes d.0.classes k.0.classes) k.2 in
        let of_selector : k.0.selector ≡ selector = sym (eqb-true d.0.selector k.0.selector same.0) ∙ eqb-true d.0.selector selector both.0 in
        let equal : d.0.classes ≡ k.0.classes = same_list_equal d.0.classes k.0.classes same.1 in
        or_right (goes_on_defined program selector nears prefix class) (goes_on_redefined program selector keys nears prefix class)
        (any_from_In (λ key. (key.selector == selector) && goes_on links nears true key.classes prefix class) keys k.0 k.1
        (and_from (k.0.selector == selector) (goes_on links nears true k.0.classes prefix class) (eq-eqb k.0.selector selector of_selector)
        (subst (λ highs. goes_on links nears true highs prefix class ≡ true) equal
        (goes links nears true d.0.classes prefix class rest few listed both.1 refl)))))
        (or_cases (is_marked (marked_at nears) 0 classes) (is_at_any keys d.0) d.2)

    pub goes_through_all : GoesThroughAll old new selector keys nears
    goes_through_all prefix class rest differs =
        let query : Query = record { selector = selector; classes = prefix ++ class ∷ rest } in
        by_cases (is_marked_candidate (marked_at nears) keys old query)
        (λ t. or_left (goes_on_in old selector keys nears prefix class) (goes_on_in new selector keys nears prefix class)
        (candidate_goes old differ.old_lawful (later_old nears tell) prefix class rest t))
        (λ none_old. by_cases (is_marked_candidate (marked_at nears) keys new query)
        (λ t. or_right (goes_on_in old selector keys nears prefix class) (goes_on_in new selector keys nears prefix class)
        (candidate_goes new differ.new_lawful (later_new nears tell) prefix class rest t))
        (λ none_new. absurd (differs (finer_marks_serve (marked_at nears) named keys old new differ.old_lawful differ.new_lawful
        differ.definitions marks_tell query names_old names_new none_old none_new))))

-- ---- the keys of the selector are enough

own_redefined : (program : Program) (selector : ℕ) (keys : List DefinitionKey) (nears : List Near) (prefix : List ℕ) (class : ℕ) →
    goes_on_redefined program selector (filter (λ key. key.selector == selector) keys) nears prefix class
    ≡ goes_on_redefined program selector keys nears prefix class
own_redefined program selector [] nears prefix class = refl
own_redefined program selector (key ∷ keys) nears prefix class =
    let rest = own_redefined program selector keys nears prefix class in
    by_cases (key.selector == selector)
    (λ t. rw (t, t, rest) refl)
    (λ f. rw f rest)

pub goes_through_own : (old new : Program) (selector : ℕ) (all chosen : List DefinitionKey) (nears : List Near) →
    chosen ≡ filter (λ key. key.selector == selector) all → GoesThroughAll old new selector all nears → GoesThroughAll old new selector chosen nears
goes_through_own old new selector all chosen nears is whole prefix class rest differs =
    subst (λ keys. IsTrue (goes_next old new selector keys nears prefix class)) (sym is)
    (rw (own_redefined old selector all nears prefix class, own_redefined new selector all nears prefix class) (whole prefix class rest differs))
