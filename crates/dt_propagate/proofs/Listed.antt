-- What is below definitions, each by itself, as lists of queries.
use Rattle.std.proofs.Common.{◌≡◌, ℕ, ◌*◌, ◌<◌, true, IsTrue, List, [], ◌∷◌, ◌++◌, length, map, inl, inr, refl, ap, ◌∙◌, arith, All}
use Rattle.std.specs.List.{sum_by}
use Rattle.std.proofs.lemmas.Bool.{and_parts}
use Rattle.std.proofs.lemmas.List.Elements.{All-head, All-tail}
use Rattle.std.proofs.lemmas.List.Sums.{sum_by-cons}
use Rattle.dt_graph.specs.Graph.{Graph, is_live}
use Rattle.dt_graph.specs.Below.{is_below}
use Rattle.dt_graph.specs.Descendants.{descendants}
use Rattle.dt_graph.proofs.ListMembers.{In, In-append, In-later, In-map}
use Rattle.dt_definitions.specs.Lawful.{Lawful}
use Rattle.dt_definitions.specs.Program.{Program}
use Rattle.dt_scratch.specs.Query.{Query}
use Rattle.dt_propagate.specs.Begun.{begins}
use Rattle.dt_propagate.specs.Bounds.{cones, firsts, laters}
use Rattle.dt_propagate.specs.Boxes.{in_turn, size}
use Rattle.dt_propagate.proofs.Boxes.{In-turn}
use Rattle.dt_propagate.proofs.BoxSizes.{length-both, length-mapped}
use Rattle.dt_propagate.proofs.Counts.{cone_has}

-- ---- one after the other

module _ {T : Type 0} where
  abbrev pub listed_by : (T → List Query) → List T → List Query
  listed_by f [] = []
  listed_by f (x ∷ xs) = f x ++ listed_by f xs

  pub In-listed : (f : T → List Query) (xs : List T) (x : T) (query : Query) → In xs x → In (f x) query → In (listed_by f xs) query
  In-listed f [] x query i there = absurd i
  In-listed f (y ∷ ys) x query (inl e) there = In-append (f y) (listed_by f ys) query (rw e at there)
  In-listed f (y ∷ ys) x query (inr i) there = In-later (f y) (listed_by f ys) query (In-listed f ys x query i there)

  pub listed_length : (f : T → List Query) (weigh : T → ℕ) → ((x : T) → length (f x) ≡ weigh x) → (xs : List T) →
      length (listed_by f xs) ≡ sum_by weigh xs
  listed_length f weigh same [] = refl
  listed_length f weigh same (x ∷ xs) =
      let both = length-both (f x) (listed_by f xs) in
      let rest = listed_length f weigh same xs in
      let sum = sum_by-cons weigh x xs in
      omega (arith, both, rest, sum, same x)

-- ---- lists of classes

-- each class of the set, before each of the lists
abbrev pub before_each : List (List ℕ) → List ℕ → List (List ℕ)
before_each lists set = in_turn (λ class. map (λ classes. class ∷ classes) lists) set

pub before_length : (lists : List (List ℕ)) (set : List ℕ) → length (before_each lists set) ≡ length set * length lists
before_length lists [] = omega arith
before_length lists (class ∷ set) =
    let both = length-both (map (λ classes. class ∷ classes) lists) (before_each lists set) in
    let one = length-mapped (λ classes. class ∷ classes) lists in
    let rest = before_length lists set in
    omega (arith, both, one, rest)

abbrev pub all_within : List (List ℕ) → List (List ℕ)
all_within [] = [] ∷ []
all_within (set ∷ sets) = before_each (all_within sets) set

abbrev pub all_firsts : List (List ℕ) → List (List ℕ)
all_firsts [] = []
all_firsts (set ∷ sets) = [] ∷ before_each (all_firsts sets) set

abbrev pub all_laters : List (List ℕ) → List (List ℕ)
all_laters [] = []
all_laters (set ∷ sets) = before_each (all_firsts sets) set

pub within_length : (sets : List (List ℕ)) → length (all_within sets) ≡ size sets
within_length [] = refl
within_length (set ∷ sets) = before_length (all_within sets) set ∙ ap (λ n. length set * n) (within_length sets)

pub firsts_length : (sets : List (List ℕ)) → length (all_firsts sets) ≡ firsts sets
firsts_length [] = refl
firsts_length (set ∷ sets) =
    let rest = before_length (all_firsts sets) set ∙ ap (λ n. length set * n) (firsts_length sets) in omega (arith, rest)

laters_length : (sets : List (List ℕ)) → length (all_laters sets) ≡ laters sets
laters_length [] = refl
laters_length (set ∷ sets) = before_length (all_firsts sets) set ∙ ap (λ n. length set * n) (firsts_length sets)

module _ (program : Program) (lawful : Lawful program) where
  abbrev g : Graph
  g = program.graph

  abbrev pub AreLive : List ℕ → Type 0
  AreLive classes = All (λ class. IsTrue (is_live g class)) classes

  pub before : (lists : List (List ℕ)) (high class : ℕ) (classes : List ℕ) → IsTrue (is_live g high) → is_below g.links class high ≡ true →
      In lists classes → In (before_each lists (descendants g high)) (class ∷ classes)
  before lists high class classes live below i =
      In-turn (λ c. map (λ classes. c ∷ classes) lists) (descendants g high) class (class ∷ classes)
      (cone_has program lawful class high live ∙ below)
      (In-map (λ classes. class ∷ classes) lists classes i)

  pub in_within : (highs classes : List ℕ) → AreLive highs → begins g.links classes highs ≡ true → length classes ≡ length highs →
      In (all_within (cones g highs)) classes
  in_within [] [] live b long = inl refl
  in_within [] (class ∷ classes) live b long = absurd (omega (arith, long))
  in_within (high ∷ highs) [] live b long = absurd (omega (arith, long))
  in_within (high ∷ highs) (class ∷ classes) live b long =
      let parts = and_parts (is_below g.links class high) (begins g.links classes highs) b in
      before (all_within (cones g highs)) high class classes (All-head (λ class. IsTrue (is_live g class)) high highs live) parts.0
      (in_within highs classes (All-tail (λ class. IsTrue (is_live g class)) high highs live) parts.1 (omega (arith, long)))

  pub in_firsts : (highs classes : List ℕ) → AreLive highs → begins g.links classes highs ≡ true → length classes < length highs →
      In (all_firsts (cones g highs)) classes
  in_firsts [] classes live b low = absurd (omega (arith, low))
  in_firsts (high ∷ highs) [] live b low = inl refl
  in_firsts (high ∷ highs) (class ∷ classes) live b low =
      let parts = and_parts (is_below g.links class high) (begins g.links classes highs) b in
      inr (before (all_firsts (cones g highs)) high class classes (All-head (λ class. IsTrue (is_live g class)) high highs live) parts.0
      (in_firsts highs classes (All-tail (λ class. IsTrue (is_live g class)) high highs live) parts.1 (omega (arith, low))))

  in_laters : (highs : List ℕ) (class : ℕ) (classes : List ℕ) → AreLive highs → begins g.links (class ∷ classes) highs ≡ true →
      length (class ∷ classes) < length highs → In (all_laters (cones g highs)) (class ∷ classes)
  in_laters [] class classes live b low = absurd (omega (arith, low))
  in_laters (high ∷ highs) class classes live b low =
      let parts = and_parts (is_below g.links class high) (begins g.links classes highs) b in
      before (all_firsts (cones g highs)) high class classes (All-head (λ class. IsTrue (is_live g class)) high highs live) parts.0
      (in_firsts highs classes (All-tail (λ class. IsTrue (is_live g class)) high highs live) parts.1 (omega (arith, low)))

-- ---- queries

abbrev pub query_at : ℕ → List ℕ → Query
query_at selector classes = record { selector = selector; classes = classes }

-- the cells below these classes; and the rows, with a class and without
abbrev pub cells_at : Graph → ℕ → List ℕ → List Query
cells_at graph selector highs = map (query_at selector) (all_within (cones graph highs))

abbrev pub rows_at : Graph → ℕ → List ℕ → List Query
rows_at graph selector highs = map (query_at selector) (all_laters (cones graph highs))

abbrev pub row_alone : ℕ → Query
row_alone selector = query_at selector []

pub cells_at_length : (graph : Graph) (selector : ℕ) (highs : List ℕ) → length (cells_at graph selector highs) ≡ size (cones graph highs)
cells_at_length graph selector highs = length-mapped (query_at selector) (all_within (cones graph highs)) ∙ within_length (cones graph highs)

pub rows_at_length : (graph : Graph) (selector : ℕ) (highs : List ℕ) → length (rows_at graph selector highs) ≡ laters (cones graph highs)
rows_at_length graph selector highs = length-mapped (query_at selector) (all_laters (cones graph highs)) ∙ laters_length (cones graph highs)

module _ (program : Program) (lawful : Lawful program) where
  pub in_cells_at : (query : Query) (highs : List ℕ) → AreLive program lawful highs → begins program.graph.links query.classes highs ≡ true →
      length query.classes ≡ length highs → In (cells_at program.graph query.selector highs) query
  in_cells_at query highs live b long =
      In-map (query_at query.selector) (all_within (cones program.graph highs)) query.classes
      (in_within program lawful highs query.classes live b long)

  pub in_rows_at : (selector class : ℕ) (classes highs : List ℕ) → AreLive program lawful highs →
      begins program.graph.links (class ∷ classes) highs ≡ true → length (class ∷ classes) < length highs →
      In (rows_at program.graph selector highs) (query_at selector (class ∷ classes))
  in_rows_at selector class classes highs live b low =
      In-map (query_at selector) (all_laters (cones program.graph highs)) (class ∷ classes)
      (in_laters program lawful highs class classes live b low)
