-- The cells and rows that are counted are those of the program.
use Rattle.std.proofs.Common.{◌≡◌, ◌≢◌, ◌==◌, ℕ, suc, ◌<◌, ◌≤◌, true, false, ◌&&◌, IsTrue, List, [], ◌∷◌, ◌++◌, length, map, Option, None, Some, inl, inr, refl, sym, ap, subst, ◌∙◌, arith, All, eqb-true, eq-eqb}
use Rattle.std.specs.Prelude.{nat_lt}
use Rattle.std.proofs.lemmas.Bool.{false≢true, and_parts, and_from}
use Rattle.std.proofs.lemmas.Bool.Decides.{nat_tests}
use Rattle.std.proofs.lemmas.List.Elements.{All-nil, All-cons, All-head, All-tail, All-weaker}
use Rattle.dt_graph.specs.Graph.{Link, has_number, is_live}
use Rattle.dt_graph.specs.Lawful.{AscendingNumbers}
use Rattle.dt_graph.specs.Below.{is_below}
use Rattle.dt_graph.specs.Descendants.{descendants}
use Rattle.dt_graph.specs.declared.limits.TheConstants.{CLASSES}
use Rattle.dt_graph.proofs.ListMembers.{by_cases, any_from_In, In, In-from_any, In-from_filter}
use Rattle.dt_selectors.specs.declared.limits.TheConstants.{SELECTORS}
use Rattle.dt_selectors.proofs.Arities.{live_in_range}
use Rattle.dt_definitions.specs.Program.{Definition, Program, arity_of, definitions_of}
use Rattle.dt_definitions.specs.Lawful.{Lawful}
use Rattle.dt_definitions.proofs.ProgramLaws.{live_classes_are_in_range}
use Rattle.dt_scratch.specs.Query.{Query, query_order}
use Rattle.dt_scratch.specs.Resolve.{are_below}
use Rattle.dt_scratch.proofs.Cells.{understood_cells}
use Rattle.dt_propagate.specs.Begun.{begins, is_begun_query, told_cell, told_row, takes_more, row_lengths}
use Rattle.dt_propagate.specs.Boxes.{is_within}
use Rattle.dt_propagate.specs.Counts.{is_begun}
use Rattle.dt_propagate.specs.Differences.{AreAll}
use Rattle.dt_propagate.specs.GoneThrough.{all_arities, told_of_all}
use Rattle.dt_propagate.specs.Touched.{takes}
use Rattle.dt_propagate.specs.Understood.{Understands, IsRow, gone_on}
use Rattle.dt_propagate.proofs.BoxSizes.{length-both}
use Rattle.dt_propagate.proofs.Counts.{cone_has, own, within_is, held_is, begun_is, understood_is_held, rows_are_begun}
use Rattle.dt_propagate.proofs.GoneThrough.{TellsOnce, told_are_all, arities_ascend, arity_listed}

-- ---- what begins, and what is below

module _ (links : List Link) where
  below_begins : (classes highs : List ℕ) → are_below links classes highs ≡ true → (begins links classes highs ≡ true) × (length classes ≡ length highs)
  below_begins [] [] h = (refl, refl)
  below_begins [] (high ∷ highs) h = absurd (false≢true h)
  below_begins (class ∷ classes) [] h = absurd (false≢true h)
  below_begins (class ∷ classes) (high ∷ highs) h =
      let parts = and_parts (is_below links class high) (are_below links classes highs) h in
      let rest = below_begins classes highs parts.1 in
      (and_from (is_below links class high) (begins links classes highs) parts.0 rest.0, ap suc rest.1)

  begins_below : (classes highs : List ℕ) → begins links classes highs ≡ true → length classes ≡ length highs → are_below links classes highs ≡ true
  begins_below [] [] h e = refl
  begins_below [] (high ∷ highs) h e = absurd (omega (arith, e))
  begins_below (class ∷ classes) [] h e = absurd (false≢true h)
  begins_below (class ∷ classes) (high ∷ highs) h e =
      let parts = and_parts (is_below links class high) (begins links classes highs) h in
      and_from (is_below links class high) (are_below links classes highs) parts.0 (begins_below classes highs parts.1 (omega (arith, e)))

pub takes_from : (program : Program) (selector k a : ℕ) → arity_of program selector ≡ Some a → a ≡ k → takes program selector k ≡ true
takes_from program selector k a e same = rw e (eq-eqb a k same)

pub takes_to : (program : Program) (selector k : ℕ) → takes program selector k ≡ true → arity_of program selector ≡ Some k
takes_to program selector k t = by_option (arity_of program selector) refl
  where
    by_option : (o : Option ℕ) → arity_of program selector ≡ o → arity_of program selector ≡ Some k
    by_option None e = let f : false ≡ true = rw e at t in absurd (false≢true f)
    by_option (Some a) e = let f : (a == k) ≡ true = rw e at t in e ∙ ap (λ n. Some n) (eqb-true a k f)

pub more_from : (program : Program) (selector k a : ℕ) → arity_of program selector ≡ Some a → k < a → takes_more program selector k ≡ true
more_from program selector k a e low = let t : nat_lt k a ≡ true = grind (arith, nat_tests, low) in rw e t

pub more_to : (program : Program) (selector k : ℕ) → takes_more program selector k ≡ true → (a : ℕ) × (arity_of program selector ≡ Some a) × (k < a)
more_to program selector k t = by_option (arity_of program selector) refl
  where
    by_option : (o : Option ℕ) → arity_of program selector ≡ o → (a : ℕ) × (arity_of program selector ≡ Some a) × (k < a)
    by_option None e = let f : false ≡ true = rw e at t in absurd (false≢true f)
    by_option (Some a) e = let f : nat_lt k a ≡ true = rw e at t in (a, e, grind (arith, nat_tests, f))

pub some_same : (a b : ℕ) → Some a ≡ Some b → a ≡ b
some_same a b same = cc

abbrev pub itself : Query → Query
itself query = query

pub map_itself : (xs : List Query) → map itself xs ≡ xs
map_itself [] = refl
map_itself (x ∷ xs) = ap (λ ys. x ∷ ys) (map_itself xs)

module _ (program : Program) (lawful : Lawful program) where
  abbrev links : List Link
  links = program.graph.links

  pub definition_at : (selector : ℕ) (d : Definition) → In (definitions_of program selector) d →
      (arity_of program selector ≡ Some (length d.classes)) × All (λ class. IsTrue (is_live program.graph class)) d.classes
  definition_at selector d i =
      let parts = In-from_filter (λ d. d.selector == selector) program.definitions d i in
      let law = own program lawful d parts.0 in
      (ap (arity_of program) (sym (eqb-true d.selector selector parts.1)) ∙ law.arity_fits, law.classes_live)

  -- ---- cells

  pub cell_begins : (query : Query) → Understands program query →
      (takes program query.selector (length query.classes) && is_begun_query program query) ≡ true
  cell_begins query understood =
      let h = (understood_is_held program lawful query).0 understood in
      let d = In-from_any (λ d. is_within [] (map (descendants program.graph) d.classes) false query.classes) (definitions_of program query.selector)
      (sym (held_is program lawful query) ∙ h) in
      let at = definition_at query.selector d.0 d.1 in
      let below = below_begins links query.classes d.0.classes (sym (within_is program lawful query.classes d.0.classes at.1) ∙ d.2) in
      and_from (takes program query.selector (length query.classes)) (is_begun_query program query)
      (takes_from program query.selector (length query.classes) (length d.0.classes) at.0 (sym below.1))
      (any_from_In (λ d. begins links query.classes d.classes) (definitions_of program query.selector) d.0 d.1 below.0)

  pub begins_cell : (query : Query) → (takes program query.selector (length query.classes) && is_begun_query program query) ≡ true →
      Understands program query
  begins_cell query h =
      let parts = and_parts (takes program query.selector (length query.classes)) (is_begun_query program query) h in
      let d = In-from_any (λ d. begins links query.classes d.classes) (definitions_of program query.selector) parts.1 in
      let at = definition_at query.selector d.0 d.1 in
      let same = some_same (length query.classes) (length d.0.classes) (sym (takes_to program query.selector (length query.classes) parts.0) ∙ at.0) in
      (understood_is_held program lawful query).1 (held_is program lawful query
      ∙ any_from_In (λ d. is_within [] (map (descendants program.graph) d.classes) false query.classes) (definitions_of program query.selector) d.0 d.1
      (within_is program lawful query.classes d.0.classes at.1 ∙ begins_below links query.classes d.0.classes d.2 same))

  -- the numbers of a query that is understood
  pub record InRange (query : Query) : Type 0 where
    pub selector : query.selector < SELECTORS
    pub some : 0 < length query.classes
    pub few : length query.classes ≤ 4
    pub classes : All (λ class. class < CLASSES) query.classes

  pub in_range : (query : Query) → Understands program query → InRange query
  in_range query understood =
      let is = (understood_cells program lawful query).0 understood in
      let range = live_in_range program.selectors lawful.selectors query.selector (length query.classes) is.arity_fits in
      record {
        selector = range.0;
        some = range.1;
        few = range.2;
        classes = All-weaker (λ class. IsTrue (is_live program.graph class)) (λ class. class < CLASSES)
            (λ class live. live_classes_are_in_range program lawful class live) query.classes is.classes_live;
      }

  pub cell_once : TellsOnce itself (told_cell program)
  cell_once query = by_cases (takes program query.selector (length query.classes) && is_begun_query program query)
      (λ t. inr (query, rw t refl, refl))
      (λ f. inl (rw f refl))

  pub cell_sound : (query x : Query) → In (told_cell program query) x → Understands program query
  cell_sound query x i = by_cases (takes program query.selector (length query.classes) && is_begun_query program query)
      (λ t. begins_cell query t)
      (λ f. let j : In {T = Query} [] x = rw f at i in absurd j)

  cell_there : (query : Query) → Understands program query → In (told_cell program query) query
  cell_there query understood = let t = cell_begins query understood in rw t (inl refl)

  pub cells_all : AreAll query_order (Understands program) (told_of_all (told_cell program) all_arities)
  cells_all = subst (AreAll query_order (Understands program)) (map_itself (told_of_all (told_cell program) all_arities))
      (told_are_all itself (told_cell program) cell_once all_arities arities_ascend (Understands program) cell_sound
      (λ query understood.
      let range = in_range query understood in (
        record { selector = range.selector; arity = arity_listed (length query.classes) range.some range.few; classes = range.classes },
        (query, cell_there query understood),
      )))

  -- ---- rows

  begun_parts : (highs classes : List ℕ) → All (λ class. IsTrue (is_live program.graph class)) highs →
      is_begun (map (descendants program.graph) highs) classes ≡ true → (begins links classes highs ≡ true) × (length classes < length highs)
  begun_parts [] classes live h = absurd (false≢true h)
  begun_parts (high ∷ highs) [] live h = (refl, omega arith)
  begun_parts (high ∷ highs) (class ∷ classes) live h =
      let head = All-head (λ class. IsTrue (is_live program.graph class)) high highs live in
      let tail = All-tail (λ class. IsTrue (is_live program.graph class)) high highs live in
      let parts = and_parts (has_number (descendants program.graph high) class) (is_begun (map (descendants program.graph) highs) classes) h in
      let rest = begun_parts highs classes tail parts.1 in
      (and_from (is_below links class high) (begins links classes highs) (sym (cone_has program lawful class high head) ∙ parts.0) rest.0, omega (arith, rest.1))

  begun_from : (highs classes : List ℕ) → All (λ class. IsTrue (is_live program.graph class)) highs →
      begins links classes highs ≡ true → length classes < length highs → is_begun (map (descendants program.graph) highs) classes ≡ true
  begun_from [] classes live h low = absurd (omega (arith, low))
  begun_from (high ∷ highs) [] live h low = refl
  begun_from (high ∷ highs) (class ∷ classes) live h low =
      let head = All-head (λ class. IsTrue (is_live program.graph class)) high highs live in
      let tail = All-tail (λ class. IsTrue (is_live program.graph class)) high highs live in
      let parts = and_parts (is_below links class high) (begins links classes highs) h in
      and_from (has_number (descendants program.graph high) class) (is_begun (map (descendants program.graph) highs) classes)
      (cone_has program lawful class high head ∙ parts.0) (begun_from highs classes tail parts.1 (omega (arith, low)))

  pub row_begins : (prefix : Query) → IsRow program prefix →
      (takes_more program prefix.selector (length prefix.classes) && is_begun_query program prefix) ≡ true
  row_begins prefix row =
      let h = (rows_are_begun program lawful prefix).0 row in
      let d = In-from_any (λ d. is_begun (map (descendants program.graph) d.classes) prefix.classes) (definitions_of program prefix.selector)
      (sym (begun_is program lawful prefix) ∙ h) in
      let at = definition_at prefix.selector d.0 d.1 in
      let parts = begun_parts d.0.classes prefix.classes at.1 d.2 in
      and_from (takes_more program prefix.selector (length prefix.classes)) (is_begun_query program prefix)
      (more_from program prefix.selector (length prefix.classes) (length d.0.classes) at.0 parts.1)
      (any_from_In (λ d. begins links prefix.classes d.classes) (definitions_of program prefix.selector) d.0 d.1 parts.0)

  pub begins_row : (prefix : Query) → (takes_more program prefix.selector (length prefix.classes) && is_begun_query program prefix) ≡ true →
      IsRow program prefix
  begins_row prefix h =
      let parts = and_parts (takes_more program prefix.selector (length prefix.classes)) (is_begun_query program prefix) h in
      let d = In-from_any (λ d. begins links prefix.classes d.classes) (definitions_of program prefix.selector) parts.1 in
      let at = definition_at prefix.selector d.0 d.1 in
      let more = more_to program prefix.selector (length prefix.classes) parts.0 in
      let same = some_same more.0 (length d.0.classes) (sym more.1 ∙ at.0) in
      (rows_are_begun program lawful prefix).1 (begun_is program lawful prefix
      ∙ any_from_In (λ d. is_begun (map (descendants program.graph) d.classes) prefix.classes) (definitions_of program prefix.selector) d.0 d.1
      (begun_from d.0.classes prefix.classes at.1 d.2 (omega (arith, same, more.2))))

  row_once : TellsOnce itself (told_row program)
  row_once query = by_cases (takes_more program query.selector (length query.classes) && is_begun_query program query)
      (λ t. inr (query, rw t refl, refl))
      (λ f. inl (rw f refl))

  row_sound : (query x : Query) → In (told_row program query) x → IsRow program query
  row_sound query x i = by_cases (takes_more program query.selector (length query.classes) && is_begun_query program query)
      (λ t. begins_row query t)
      (λ f. let j : In {T = Query} [] x = rw f at i in absurd j)

  row_there : (query : Query) → IsRow program query → In (told_row program query) query
  row_there query row = let t = row_begins query row in rw t (inl refl)

  firsts : (P : ℕ → Type 0) (first rest : List ℕ) → All P (first ++ rest) → All P first
  firsts P [] rest all = All-nil P
  firsts P (x ∷ first) rest all = All-cons P x first (All-head P x (first ++ rest) all) (firsts P first rest (All-tail P x (first ++ rest) all))

  lengths_ascend : AscendingNumbers row_lengths
  unfolding row_lengths
  lengths_ascend = (refl, (refl, (refl, tt)))

  length_listed : (n : ℕ) → n < 4 → IsTrue (has_number row_lengths n)
  unfolding row_lengths
  length_listed n low = grind (arith, nat_tests, low)

  some_length : (rest : List ℕ) → rest ≢ [] → 0 < length rest
  some_length [] some = absurd (some refl)
  some_length (x ∷ rest) some = omega arith

  pub rows_all : AreAll query_order (IsRow program) (told_of_all (told_row program) row_lengths)
  rows_all = subst (AreAll query_order (IsRow program)) (map_itself (told_of_all (told_row program) row_lengths))
      (told_are_all itself (told_row program) row_once row_lengths lengths_ascend (IsRow program) row_sound
      (λ query row.
      let range = in_range (gone_on query row.0) row.1.understood in
      let both = length-both query.classes row.0 in
      let some = some_length row.0 row.1.some in (
        record {
          selector = range.selector;
          arity = length_listed (length query.classes) (omega (arith, both, some, range.few));
          classes = firsts (λ class. class < CLASSES) query.classes row.0 range.classes;
        },
        (query, row_there query row),
      )))
