-- Of selectors that aren't touched, and of queries of another arity, nothing is told.
use Rattle.std.proofs.Common.{◌≡◌, ◌≢◌, ◌==◌, ℕ, zero, suc, ◌+◌, Bool, true, false, ◌&&◌, ◌||◌, IsTrue, List, [], ◌∷◌, ◌++◌, length, filter, inl, inr, ◌⊎◌, ⊎_elim, refl, sym, ap, subst, ◌∙◌, arith, eqb-true, eq-eqb, append_assoc, append-nil}
use Rattle.std.specs.List.{range_with_len}
use Rattle.std.proofs.lemmas.Bool.{false≢true, and_parts, or_cases, or_left, or_right, or_parts, or_from, false_from_ne_true}
use Rattle.dt_graph.specs.Graph.{has_number}
use Rattle.dt_graph.specs.Below.{is_below}
use Rattle.dt_graph.proofs.ListMembers.{by_cases, any_from_In, In-map, In-from_any, In-filter, In-from_filter, none_from, any_listed}
use Rattle.dt_selectors.specs.declared.limits.TheConstants.{SELECTORS}
use Rattle.dt_definitions.specs.Program.{Program, definitions_of, is_definition, key_of, same_classes}
use Rattle.dt_definitions.specs.Lawful.{Lawful}
use Rattle.dt_definitions.specs.Naming.{naming}
use Rattle.dt_definitions.specs.Differing.{is_at_any}
use Rattle.dt_definitions.specs.declared.definition_key.DefinitionKey.{DefinitionKey}
use Rattle.dt_scratch.specs.declared.reply.Answer.TheVariants.{NotUnderstood}
use Rattle.dt_scratch.specs.Query.{Query}
use Rattle.dt_scratch.specs.Resolve.{are_below, applicable, cell}
use Rattle.dt_scratch.proofs.Cells.{understood_cells}
use Rattle.dt_propagate.specs.Boxes.{in_turn}
use Rattle.dt_propagate.specs.Differences.{Differs}
use Rattle.dt_propagate.specs.FinerMarks.{is_marked, NamesAll, MarksTell, is_marked_candidate}
use Rattle.dt_propagate.specs.GoneThrough.{all_arities, all_selectors, told_after, told_of}
use Rattle.dt_propagate.specs.Marks.{has_at, names_at, is_named_at, DifferBelow}
use Rattle.dt_propagate.specs.Touched.{TouchAll, takes, is_of_any, names_any}
use Rattle.dt_propagate.specs.Walk.{is_same_answer, told_change}
use Rattle.dt_propagate.proofs.Boxes.{In-from_turn}
use Rattle.dt_propagate.proofs.Cover.{names_old, names_new}
use Rattle.dt_propagate.proofs.FinerMarks.{finer_marks_serve}
use Rattle.dt_propagate.proofs.GoneThrough.{told_from}
use Rattle.dt_propagate.proofs.Leaf.{same_answers, told_once, told_differs}
use Rattle.dt_propagate.proofs.WalkSteps.{empty_list}

-- ---- in turn

pub turn_more : {T : Type 0} (f : ℕ → List T) (a n next : ℕ) → next ≡ n + 1 →
    in_turn f (range_with_len a next) ≡ in_turn f (range_with_len a n) ++ f (a + n)
turn_more f a n next e = ap (λ m. in_turn f (range_with_len a m)) (e ∙ (let s : n + 1 ≡ suc n = omega arith in s)) ∙ along a n
  where
    along : (a n : ℕ) → in_turn f (range_with_len a (suc n)) ≡ in_turn f (range_with_len a n) ++ f (a + n)
    along a zero = append-nil (f a) ∙ ap f (let s : a ≡ a + 0 = omega arith in s)
    along a (suc n) =
        ap (λ xs. f a ++ xs) (along (a + 1) n)
        ∙ sym (append_assoc (f a) (in_turn f (range_with_len (a + 1) n)) (f ((a + 1) + n)))
        ∙ ap (λ m. (f a ++ in_turn f (range_with_len (a + 1) n)) ++ f m) (let s : (a + 1) + n ≡ a + suc n = omega arith in s)

pub turned : {T : Type 0} (f : ℕ → List T) (a n next at : ℕ) (start before after : List T) → next ≡ n + 1 → at ≡ a + n →
    before ≡ start ++ in_turn f (range_with_len a n) → after ≡ before ++ f at → after ≡ start ++ in_turn f (range_with_len a next)
turned f a n next at start before after e i b h =
    h ∙ ap (λ xs. xs ++ f at) b ∙ append_assoc start (in_turn f (range_with_len a n)) (f at)
    ∙ ap (λ m. start ++ (in_turn f (range_with_len a n) ++ f m)) i
    ∙ ap (λ xs. start ++ xs) (sym (turn_more f a n next e))

pub arities_are : (n : ℕ) → n ≡ 4 → range_with_len 1 n ≡ all_arities
unfolding all_arities
arities_are n e = ap (range_with_len 1) e

pub selectors_are : (n : ℕ) → n ≡ SELECTORS → range_with_len 0 n ≡ all_selectors
unfolding all_selectors
selectors_are n e = ap (range_with_len 0) e

-- ---- another arity

-- a query whose cells differ is understood in one of the programs
pub one_understood : (old new : Program) (query : Query) → Differs old new query →
    (cell old query ≢ NotUnderstood) ⊎ (cell new query ≢ NotUnderstood)
one_understood old new query differs =
    by_cases (is_same_answer (cell old query) NotUnderstood)
    (λ t. inr (λ none. differs (same_answers (cell old query) NotUnderstood t ∙ sym none)))
    (λ f. inl (λ none. false≢true (sym f ∙ ap (λ a. is_same_answer a NotUnderstood) none)))

understood_takes : (program : Program) → Lawful program → (query : Query) → cell program query ≢ NotUnderstood →
    takes program query.selector (length query.classes) ≡ true
understood_takes program lawful query some =
    let fits = ((understood_cells program lawful query).0 some).arity_fits in
    rw fits (eq-eqb (length query.classes) (length query.classes) refl)

-- nothing is told where no cell differs
pub none_after : (old new : Program) (selector k : ℕ) (prefix : List ℕ) →
    ((rest : List ℕ) → length rest ≡ k → Differs old new (record { selector = selector; classes = prefix ++ rest }) → ⊥) →
    told_after (told_change old new) selector k prefix ≡ []
none_after old new selector k prefix none =
    empty_list (told_after (told_change old new) selector k prefix) (λ x i.
    let a = told_from (λ change. change.query) (told_change old new) (told_once old new) selector k prefix x i in
    none a.rest a.as_many (told_differs old new (record { selector = selector; classes = prefix ++ a.rest }) x a.there).0)

pub none_of_arity : (old new : Program) (selector arity : ℕ) → Lawful old → Lawful new →
    takes old selector arity ≡ false → takes new selector arity ≡ false →
    told_after (told_change old new) selector arity [] ≡ []
none_of_arity old new selector arity is_old is_new no_old no_new =
    none_after old new selector arity [] (λ rest as_many differs.
    let query : Query = record { selector = selector; classes = rest } in
    ⊎_elim
    (λ some. false≢true (sym no_old ∙ ap (takes old selector) (sym as_many) ∙ understood_takes old is_old query some))
    (λ some. false≢true (sym no_new ∙ ap (takes new selector) (sym as_many) ∙ understood_takes new is_new query some))
    (one_understood old new query differs))

-- ---- a selector that isn't touched

at_listed : (classes : List ℕ) (position class : ℕ) → has_at classes position class ≡ true → has_number classes class ≡ true
at_listed [] position class h = absurd (false≢true h)
at_listed (x ∷ classes) zero class h = or_left (x == class) (has_number classes class) h
at_listed (x ∷ classes) (suc position) class h = or_right (x == class) (has_number classes class) (at_listed classes position class h)

none_met : (position : ℕ) (classes : List ℕ) → is_marked (λ position class. false) position classes ≡ false
none_met position [] = refl
none_met position (class ∷ classes) = none_met (position + 1) classes

module _ (old new : Program) (selector : ℕ) (keys : List DefinitionKey) (moved : List ℕ) (differ : DifferBelow old new keys moved)
    (no_key : is_of_any keys selector ≡ false) (no_name : names_any old new moved selector ≡ false) where
  -- a class that a definition of the selector names is among its names
  key_named : (program : Program) (position high : ℕ) → names_at program selector position high ≡ true →
      is_of_any (naming program.definitions high) selector ≡ true
  key_named program position high there =
      let d = In-from_any (λ d. has_at d.classes position high) (definitions_of program selector) there in
      let i = In-from_filter (λ d. d.selector == selector) program.definitions d.0 d.1 in
      any_from_In (λ key. key.selector == selector) (naming program.definitions high) (key_of d.0)
      (In-map key_of (filter (λ d. has_number d.classes high) program.definitions) d.0
      (In-filter (λ d. has_number d.classes high) program.definitions d.0 i.0 (at_listed d.0.classes position high d.2))) i.1

  named_stays : (position class high : ℕ) → IsTrue (is_named_at old new selector position high) →
      is_below old.graph.links class high ≡ is_below new.graph.links class high
  named_stays position class high there = by_cases (has_number moved high)
      (λ listed.
      let named : (is_of_any (naming old.definitions high) selector || is_of_any (naming new.definitions high) selector) ≡ true = ⊎_elim
      (λ a. or_left (is_of_any (naming old.definitions high) selector) (is_of_any (naming new.definitions high) selector) (key_named old position high a))
      (λ a. or_right (is_of_any (naming old.definitions high) selector) (is_of_any (naming new.definitions high) selector) (key_named new position high a))
      (or_cases (names_at old selector position high) (names_at new selector position high) there) in
      absurd (false≢true (sym no_name ∙ any_listed (λ c. is_of_any (naming old.definitions c) selector || is_of_any (naming new.definitions c) selector)
      moved high listed named)))
      (λ f. differ.others class high f)

  nothing_marked : MarksTell (λ position class. false) (is_named_at old new selector) old new
  nothing_marked = record {
    same_above = λ position class high unmarked there. named_stays position class high there;
    same_order = λ position class a b unmarked na nb below. named_stays position a b nb;
  }

  no_candidate : (program : Program) (query : Query) → query.selector ≡ selector →
      is_marked_candidate (λ position class. false) keys program query ≡ false
  no_candidate program query e =
      none_from (λ d. is_marked (λ position class. false) 0 query.classes || is_at_any keys d) (applicable program query) (λ d i.
      let parts = In-from_filter (λ d. (d.selector == query.selector) && are_below program.graph.links query.classes d.classes) program.definitions d i in
      let same = and_parts (d.selector == query.selector) (are_below program.graph.links query.classes d.classes) parts.1 in
      or_from (is_marked (λ position class. false) 0 query.classes) (is_at_any keys d) (none_met 0 query.classes)
      (false_from_ne_true (is_at_any keys d) (λ at.
      let k = In-from_any (λ key. is_definition key.selector key.classes d) keys at in
      let own = and_parts (d.selector == k.0.selector) (same_classes d.classes k.0.classes) k.2 in
      let of_selector : k.0.selector ≡ selector = sym (eqb-true d.selector k.0.selector own.0) ∙ eqb-true d.selector query.selector same.0 ∙ e in
      false≢true (sym no_key ∙ any_from_In (λ key. key.selector == selector) keys k.0 k.1 (eq-eqb k.0.selector selector of_selector)))))

  abbrev NamedIn : Program → Type 0
  NamedIn program = (position class : ℕ) → names_at program selector position class ≡ true → IsTrue (is_named_at old new selector position class)

  pub untouched_stays : NamesAll (is_named_at old new selector) selector old → NamesAll (is_named_at old new selector) selector new →
      (query : Query) → query.selector ≡ selector → cell old query ≡ cell new query
  untouched_stays names_old names_new query e =
      finer_marks_serve (λ position class. false) (is_named_at old new selector) keys old new differ.old_lawful differ.new_lawful
      differ.definitions nothing_marked query
      (subst (λ s. NamesAll (is_named_at old new selector) s old) (sym e) names_old)
      (subst (λ s. NamesAll (is_named_at old new selector) s new) (sym e) names_new)
      (no_candidate old query e) (no_candidate new query e)

-- so of a selector that isn't in the set nothing is told
pub touch_all : (old new : Program) (keys : List DefinitionKey) (moved touched : List ℕ) → DifferBelow old new keys moved →
    ((n : ℕ) → has_number touched n ≡ (is_of_any keys n || names_any old new moved n)) → TouchAll old new touched
touch_all old new keys moved touched differ touched_is selector unset =
    let parts = or_parts (is_of_any keys selector) (names_any old new moved selector) (sym (touched_is selector) ∙ unset) in
    empty_list (told_of (told_change old new) all_arities selector) (λ x i.
    let t = In-from_turn (λ arity. told_after (told_change old new) selector arity []) all_arities x i in
    let a = told_from (λ change. change.query) (told_change old new) (told_once old new) selector t.0 [] x t.2 in
    let query : Query = record { selector = selector; classes = a.rest } in
    (told_differs old new query x a.there).0
    (untouched_stays old new selector keys moved differ parts.0 parts.1
    (names_old old new selector keys moved differ) (names_new old new selector keys moved differ) query refl))

pub touched_are : (before of_key named middle after : Bool) → before ≡ false → middle ≡ (before || of_key) → after ≡ (middle || named) →
    after ≡ (of_key || named)
touched_are before of_key named middle after none m a = grind (arith, none, m, a)
