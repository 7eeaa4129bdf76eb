-- What is new in a program is below a definition that was made, or one that a class is below that wasn't before.
use Rattle.std.proofs.Common.{◌≡◌, ◌==◌, ℕ, true, false, not, if◌then◌else◌, IsTrue, List, [], ◌∷◌, ◌++◌, length, filter, inl, inr, ◌⊎◌, ⊎_elim, refl, sym, ap, subst, ◌∙◌, arith, All, eqb-true, eq-eqb}
use Rattle.std.proofs.lemmas.Bool.{false≢true, and_parts, and_from, or_cases}
use Rattle.std.specs.List.{list_any}
use Rattle.dt_graph.specs.Graph.{has_number, is_live}
use Rattle.dt_graph.specs.Below.{is_below}
use Rattle.dt_graph.proofs.ListMembers.{by_cases, any_listed, In, In-append, In-later, In-map, In-filter, In-from_filter, In-from_any, any_from_In, In-from_Contains, Contains-from_In}
use Rattle.dt_graph.proofs.SameLists.{same_list_equal}
use Rattle.dt_selectors.proofs.Arities.{live_in_range}
use Rattle.dt_definitions.specs.Causes.{has_definition}
use Rattle.dt_definitions.specs.Program.{Definition, Program, definitions_of, is_definition, key_of, same_classes}
use Rattle.dt_definitions.specs.Naming.{naming}
use Rattle.dt_definitions.specs.Differing.{is_at_any}
use Rattle.dt_definitions.specs.declared.definition_key.DefinitionKey.{DefinitionKey}
use Rattle.dt_scratch.specs.Query.{Query}
use Rattle.dt_propagate.specs.Begun.{begins}
use Rattle.dt_propagate.specs.Bounds.{cells_gained, is_gained, is_made, made_cells, made_rows, one_if_none, rows_gained}
use Rattle.dt_propagate.specs.Marks.{DifferNear}
use Rattle.dt_propagate.specs.Understood.{Understands, IsRow}
use Rattle.dt_propagate.proofs.BelowOne.{BelowOne, AsMany, Fewer, live_at, understood_below, below_understood, row_below, below_row}
use Rattle.dt_propagate.proofs.BoxSizes.{length-both}
use Rattle.dt_propagate.proofs.CellsAndRows.{definition_at}
use Rattle.dt_propagate.proofs.GainedLists.{cells_more, rows_more, cells_more_length, rows_more_length, in_cells_more, in_rows_more, gained_at}
use Rattle.dt_propagate.proofs.Listed.{listed_by, listed_length, In-listed, query_at, cells_at, rows_at, row_alone, cells_at_length, rows_at_length, in_cells_at, in_rows_at}

-- the selector and the classes of a definition at a key
at_key : (key : DefinitionKey) (d : Definition) → is_definition key.selector key.classes d ≡ true →
    (d.selector ≡ key.selector) × (d.classes ≡ key.classes)
at_key key d t =
    let parts = and_parts (d.selector == key.selector) (same_classes d.classes key.classes) t in
    (eqb-true d.selector key.selector parts.0, same_list_equal d.classes key.classes parts.1)

-- ---- what is listed of a key

-- the selector with no class, where it has no definition
abbrev alone_if_none : List Definition → ℕ → List Query
alone_if_none [] selector = row_alone selector ∷ []
alone_if_none (d ∷ definitions) selector = []

alone_length : (definitions : List Definition) (selector : ℕ) → length (alone_if_none definitions selector) ≡ one_if_none definitions
alone_length [] selector = refl
alone_length (d ∷ definitions) selector = refl

module _ (old new : Program) where
  abbrev pub cells_made : DefinitionKey → List Query
  cells_made key = if is_made old new key then cells_at new.graph key.selector key.classes else []

  abbrev pub rows_made : DefinitionKey → List Query
  rows_made key =
      if is_made old new key
      then alone_if_none (definitions_of old key.selector) key.selector ++ rows_at new.graph key.selector key.classes
      else []

  pub cells_made_length : (key : DefinitionKey) → length (cells_made key) ≡ made_cells old new key
  cells_made_length key = by_cases (is_made old new key)
      (λ t. rw t (cells_at_length new.graph key.selector key.classes))
      (λ f. rw f refl)

  pub rows_made_length : (key : DefinitionKey) → length (rows_made key) ≡ made_rows old new key
  rows_made_length key = by_cases (is_made old new key)
      (λ t. rw t (
      let both = length-both (alone_if_none (definitions_of old key.selector) key.selector) (rows_at new.graph key.selector key.classes) in
      let one = alone_length (definitions_of old key.selector) key.selector in
      let rest = rows_at_length new.graph key.selector key.classes in
      omega (arith, both, one, rest)))
      (λ f. rw f refl)

-- what is below the definitions of the new program that name the class, in the new program alone
module _ (old new : Program) where
  abbrev pub cells_from : ℕ → List Query
  cells_from class = listed_by (λ key. cells_more old.graph new.graph key.selector key.classes) (naming new.definitions class)

  abbrev pub rows_from : ℕ → List Query
  rows_from class = listed_by (λ key. rows_more old.graph new.graph key.selector key.classes) (naming new.definitions class)

  pub cells_from_length : (class : ℕ) → length (cells_from class) ≡ cells_gained old new class
  cells_from_length class = listed_length (λ key. cells_more old.graph new.graph key.selector key.classes) _
      (λ (key : DefinitionKey). cells_more_length old.graph new.graph key.selector key.classes) (naming new.definitions class)

  pub rows_from_length : (class : ℕ) → length (rows_from class) ≡ rows_gained old new class
  rows_from_length class = listed_length (λ key. rows_more old.graph new.graph key.selector key.classes) _
      (λ (key : DefinitionKey). rows_more_length old.graph new.graph key.selector key.classes) (naming new.definitions class)

in_numbers : (numbers : List ℕ) (n : ℕ) → IsTrue (has_number numbers n) → In numbers n
in_numbers [] n h = absurd (false≢true h)
in_numbers (m ∷ numbers) n h = ⊎_elim
    (λ here. inl (let e = eqb-true m n here in cc))
    (λ later. inr (in_numbers numbers n later))
    (or_cases (m == n) (has_number numbers n) h)

module _ (old new : Program) (keys : List DefinitionKey) (edited gained : List ℕ) (near : DifferNear old new keys edited)
    (gained_is : (n : ℕ) → has_number gained n ≡ list_any (λ class. is_gained old.graph.links new.graph.links class n) edited) where
  -- the query begins below a definition that was made at one of the keys
  record BelowMade (Fits : ℕ → ℕ → Type 0) (query : Query) : Type 0 where
    key : DefinitionKey
    listed : In keys key
    made : is_made old new key ≡ true
    selector : key.selector ≡ query.selector
    live : All (λ class. IsTrue (is_live new.graph class)) key.classes
    begins : begins new.graph.links query.classes key.classes ≡ true
    fits : Fits (length query.classes) (length key.classes)

  -- the query begins below a definition of the new program, as it didn't in the old one
  record BelowGained (Fits : ℕ → ℕ → Type 0) (query : Query) : Type 0 where
    definition : Definition
    there : In new.definitions definition
    selector : definition.selector ≡ query.selector
    live : All (λ class. IsTrue (is_live new.graph class)) definition.classes
    not_before : begins old.graph.links query.classes definition.classes ≡ false
    begins : begins new.graph.links query.classes definition.classes ≡ true
    fits : Fits (length query.classes) (length definition.classes)

  -- as it is below a definition of the old program, or as it isn't
  abbrev BelowNow : (ℕ → ℕ → Type 0) → Query → Type 0
  BelowNow Fits query = BelowOne old Fits query ⊎ BelowGained Fits query

  module _ (Fits : ℕ → ℕ → Type 0) (query : Query) (one : BelowOne new Fits query) where
    abbrev d : Definition
    d = one.definition

    there : In new.definitions d
    there = (In-from_filter (λ d. d.selector == query.selector) new.definitions d one.own).0

    same_selector : d.selector ≡ query.selector
    same_selector = eqb-true d.selector query.selector (In-from_filter (λ d. d.selector == query.selector) new.definitions d one.own).1

    -- a definition of the old program at its classes
    by_old : (c : Definition) → In old.definitions c → c.selector ≡ query.selector → c.classes ≡ d.classes → BelowNow Fits query
    by_old c i s e = by_cases (begins old.graph.links query.classes d.classes)
        (λ t. inl (record {
          definition = c;
          own = In-filter (λ d. d.selector == query.selector) old.definitions c i (eq-eqb c.selector query.selector s);
          begins = ap (begins old.graph.links query.classes) e ∙ t;
          fits = subst (λ n. Fits (length query.classes) n) (sym (ap length e)) one.fits;
        }))
        (λ f. inr (record {
          definition = d;
          there = there;
          selector = same_selector;
          live = live_at new near.new_lawful query d one.own;
          begins = one.begins;
          not_before = f;
          fits = one.fits;
        }))

    at_one : (key : DefinitionKey) → In keys key → is_definition key.selector key.classes d ≡ true →
        BelowNow Fits query ⊎ BelowMade Fits query
    at_one key listed t = by_cases (has_definition old key.selector key.classes)
        (λ h.
        let c = In-from_any (is_definition key.selector key.classes) old.definitions h in
        let same = at_key key c.0 c.2 in
        inl (by_old c.0 c.1 (same.0 ∙ sym at.0 ∙ same_selector) (same.1 ∙ sym at.1)))
        (λ f. inr (record {
          key = key;
          listed = listed;
          made = and_from (has_definition new key.selector key.classes) (not (has_definition old key.selector key.classes))
              (any_from_In (is_definition key.selector key.classes) new.definitions d there t) (ap not f);
          selector = sym at.0 ∙ same_selector;
          live = subst (λ classes. All (λ class. IsTrue (is_live new.graph class)) classes) at.1 (live_at new near.new_lawful query d one.own);
          begins = ap (begins new.graph.links query.classes) (sym at.1) ∙ one.begins;
          fits = subst (λ n. Fits (length query.classes) n) (ap length at.1) one.fits;
        }))
      where
        at : (d.selector ≡ key.selector) × (d.classes ≡ key.classes)
        at = at_key key d t

    below_either : BelowNow Fits query ⊎ BelowMade Fits query
    below_either = by_cases (is_at_any keys d)
        (λ t. let key = In-from_any (λ key. is_definition key.selector key.classes d) keys t in at_one key.0 key.1 key.2)
        (λ f. inl (by_old d (In-from_Contains old.definitions d ((near.definitions d f).1 (Contains-from_In new.definitions d there)))
        same_selector refl))

  -- where it is among the new lists
  module _ (Fits : ℕ → ℕ → Type 0) (query : Query) (one : BelowGained Fits query) (more : ℕ → List ℕ → List Query)
      (in_more : In (more one.definition.selector one.definition.classes) query) where
    in_from : In (listed_by (λ class. listed_by (λ (key : DefinitionKey). more key.selector key.classes) (naming new.definitions class)) gained) query
    in_from =
        let d = one.definition in
        let at = gained_at old new near.new_lawful query.classes d.classes one.begins one.not_before in
        let moved : is_gained old.graph.links new.graph.links at.low at.high ≡ true =
        and_from (is_below new.graph.links at.low at.high) (not (is_below old.graph.links at.low at.high)) at.after (ap not at.before) in
        let low : has_number edited at.low ≡ true = by_cases (has_number edited at.low) (λ t. t)
        (λ f. absurd (false≢true (sym at.before ∙ near.others at.low at.high f ∙ at.after))) in
        let listed : has_number gained at.high ≡ true =
        gained_is at.high ∙ any_listed (λ class. is_gained old.graph.links new.graph.links class at.high) edited at.low low moved in
        In-listed (λ class. listed_by (λ (key : DefinitionKey). more key.selector key.classes) (naming new.definitions class)) gained at.high query
        (in_numbers gained at.high listed)
        (In-listed (λ (key : DefinitionKey). more key.selector key.classes) (naming new.definitions at.high) (key_of d) query
        (In-map key_of (filter (λ d. has_number d.classes at.high) new.definitions) d
        (In-filter (λ d. has_number d.classes at.high) new.definitions d one.there at.listed))
        in_more)

  -- ---- cells

  in_cells_made : (query : Query) (made : BelowMade AsMany query) → In (cells_made old new made.key) query
  in_cells_made query made =
      let t = made.made in
      rw t (subst (λ selector. In (cells_at new.graph selector made.key.classes) query) (sym made.selector)
      (in_cells_at new near.new_lawful query made.key.classes made.live made.begins made.fits))

  in_cells_from : (query : Query) (one : BelowGained AsMany query) → In (listed_by (cells_from old new) gained) query
  in_cells_from query one =
      in_from AsMany query one (cells_more old.graph new.graph)
      (subst (λ selector. In (cells_more old.graph new.graph selector one.definition.classes) query) (sym one.selector)
      (in_cells_more old new near.new_lawful query one.definition.classes one.live one.begins one.not_before one.fits))

  abbrev pub cells_new : List Query
  cells_new = listed_by (cells_made old new) keys ++ listed_by (cells_from old new) gained

  pub cells_covered : (query : Query) → Understands new query → Understands old query ⊎ In cells_new query
  cells_covered query understood = ⊎_elim
      (λ now. ⊎_elim
      (λ one. inl (below_understood old near.old_lawful query one))
      (λ one. inr (In-later (listed_by (cells_made old new) keys) (listed_by (cells_from old new) gained) query (in_cells_from query one)))
      now)
      (λ made. inr (In-append (listed_by (cells_made old new) keys) (listed_by (cells_from old new) gained) query
      (In-listed (cells_made old new) keys made.key query made.listed (in_cells_made query made))))
      (below_either AsMany query (understood_below new near.new_lawful query understood))

  -- ---- rows

  some_row : (selector : ℕ) (definitions : List Definition) → definitions_of old selector ≡ definitions →
      IsRow old (row_alone selector) ⊎ In (alone_if_none definitions selector) (row_alone selector)
  some_row selector [] e = inr (inl refl)
  some_row selector (d ∷ definitions) e =
      let i : In (definitions_of old selector) d = subst (λ ds. In ds d) (sym e) (inl refl) in
      let range = live_in_range old.selectors near.old_lawful.selectors selector (length d.classes) (definition_at old near.old_lawful selector d i).0 in
      inl (below_row old near.old_lawful (row_alone selector) (record { definition = d; own = i; begins = refl; fits = range.1 }))

  row_either : (selector : ℕ) (classes : List ℕ) (made : BelowMade Fewer (query_at selector classes)) →
      IsRow old (query_at selector classes)
      ⊎ In (alone_if_none (definitions_of old selector) selector ++ rows_at new.graph selector made.key.classes) (query_at selector classes)
  row_either selector [] made = ⊎_elim
      (λ row. inl row)
      (λ i. inr (In-append (alone_if_none (definitions_of old selector) selector) (rows_at new.graph selector made.key.classes) (row_alone selector) i))
      (some_row selector (definitions_of old selector) refl)
  row_either selector (class ∷ classes) made =
      inr (In-later (alone_if_none (definitions_of old selector) selector) (rows_at new.graph selector made.key.classes)
      (query_at selector (class ∷ classes))
      (in_rows_at new near.new_lawful selector class classes made.key.classes made.live made.begins made.fits))

  in_rows_made : (query : Query) (made : BelowMade Fewer query) →
      In (alone_if_none (definitions_of old query.selector) query.selector ++ rows_at new.graph query.selector made.key.classes) query →
      In (rows_made old new made.key) query
  in_rows_made query made i =
      let t = made.made in
      rw t (subst (λ selector. In (alone_if_none (definitions_of old selector) selector ++ rows_at new.graph selector made.key.classes) query)
      (sym made.selector) i)

  in_rows_from : (query : Query) (one : BelowGained Fewer query) → In (listed_by (rows_from old new) gained) query
  in_rows_from query one =
      in_from Fewer query one (rows_more old.graph new.graph)
      (subst (λ selector. In (rows_more old.graph new.graph selector one.definition.classes) query) (sym one.selector)
      (in_rows_more old new near.new_lawful query one.definition.classes one.live one.begins one.not_before one.fits))

  abbrev pub rows_new : List Query
  rows_new = listed_by (rows_made old new) keys ++ listed_by (rows_from old new) gained

  pub rows_covered : (query : Query) → IsRow new query → IsRow old query ⊎ In rows_new query
  rows_covered query row = ⊎_elim
      (λ now. ⊎_elim
      (λ one. inl (below_row old near.old_lawful query one))
      (λ one. inr (In-later (listed_by (rows_made old new) keys) (listed_by (rows_from old new) gained) query (in_rows_from query one)))
      now)
      (λ made. ⊎_elim
      (λ o. inl o)
      (λ i. inr (In-append (listed_by (rows_made old new) keys) (listed_by (rows_from old new) gained) query
      (In-listed (rows_made old new) keys made.key query made.listed (in_rows_made query made i))))
      (row_either query.selector query.classes made))
      (below_either Fewer query (row_below new near.new_lawful query row))
