-- What is below definitions in a new graph alone, each by itself, as lists of queries.
use Rattle.std.proofs.Common.{◌≡◌, ℕ, ◌+◌, ◌*◌, ◌<◌, true, false, not, ◌&&◌, IsTrue, List, [], ◌∷◌, ◌++◌, length, map, refl, sym, ap, ◌∙◌, arith}
use Rattle.std.proofs.lemmas.Bool.{false≢true, and_parts, and_from}
use Rattle.std.proofs.lemmas.List.Elements.{All-head, All-tail}
use Rattle.dt_graph.specs.Graph.{Graph, has_number, is_live}
use Rattle.dt_graph.specs.Below.{is_below}
use Rattle.dt_graph.specs.Lawful.{AscendingNumbers, LawfulGraph}
use Rattle.dt_graph.specs.Descendants.{descendants}
use Rattle.dt_graph.proofs.Ascending.{AscendingNumbers-filter}
use Rattle.dt_graph.proofs.Effects.{has_number-filtered}
use Rattle.dt_graph.proofs.ListMembers.{by_cases, In, In-append, In-later, In-map}
use Rattle.dt_graph.proofs.ListsOfGraphs.{descendants_ascend}
use Rattle.dt_definitions.specs.Lawful.{Lawful}
use Rattle.dt_definitions.specs.Program.{Program}
use Rattle.dt_scratch.specs.Query.{Query}
use Rattle.dt_propagate.specs.Begun.{begins}
use Rattle.dt_propagate.specs.Bounds.{cones, firsts, newly_below, size_gained, firsts_gained}
use Rattle.dt_propagate.specs.Boxes.{size}
use Rattle.dt_propagate.proofs.Boxes.{In-turn}
use Rattle.dt_propagate.proofs.BoxSizes.{length-both, length-mapped}
use Rattle.dt_propagate.proofs.Counts.{cone_has}
use Rattle.dt_propagate.proofs.Listed.{before_each, before_length, all_within, all_firsts, within_length, firsts_length, before, in_within, in_firsts, AreLive, query_at}

-- what is below the class in the new graph but not in the old one, as a set
pub newly_is : (old new : Graph) (class : ℕ) (after earlier newly : List ℕ) (count : ℕ) → LawfulGraph new → after ≡ descendants new class →
    ((low : ℕ) → has_number earlier low ≡ is_below old.links low class) →
    ((n : ℕ) → has_number newly n ≡ (has_number after n && not (has_number earlier n))) →
    ((numbers : List ℕ) → AscendingNumbers numbers → ((n : ℕ) → has_number numbers n ≡ has_number newly n) → newly ≡ numbers) →
    count ≡ length newly → count ≡ length (newly_below old new class)
newly_is old new class after earlier newly count lawful after_is before_is newly_has determined count_is =
    count_is ∙ ap length (determined (newly_below old new class)
    (AscendingNumbers-filter (λ low. not (is_below old.links low class)) (descendants new class) (descendants_ascend new class lawful.classes_ascend))
    (λ n. has_number-filtered (λ low. not (is_below old.links low class)) (descendants new class) n
    ∙ ap (λ b. has_number (descendants new class) n && not b) (sym (before_is n))
    ∙ ap (λ ns. has_number ns n && not (has_number earlier n)) (sym after_is)
    ∙ sym (newly_has n)))

-- ---- lists of classes, one of which at least is below that of its position in the new graph alone

module _ (old new : Graph) where
  abbrev pub all_gained : List ℕ → List (List ℕ)
  all_gained [] = []
  all_gained (high ∷ highs) =
      before_each (all_within (cones new highs)) (newly_below old new high) ++ before_each (all_gained highs) (descendants new high)

  abbrev pub all_firsts_gained : List ℕ → List (List ℕ)
  all_firsts_gained [] = []
  all_firsts_gained (high ∷ highs) =
      before_each (all_firsts (cones new highs)) (newly_below old new high) ++ before_each (all_firsts_gained highs) (descendants new high)

  gained_length : (highs : List ℕ) → length (all_gained highs) ≡ size_gained old new highs
  gained_length [] = refl
  gained_length (high ∷ highs) =
      length-both (before_each (all_within (cones new highs)) (newly_below old new high)) (before_each (all_gained highs) (descendants new high))
      ∙ ap (λ n. n + length (before_each (all_gained highs) (descendants new high)))
      (before_length (all_within (cones new highs)) (newly_below old new high)
      ∙ ap (λ n. length (newly_below old new high) * n) (within_length (cones new highs)))
      ∙ ap (λ n. length (newly_below old new high) * size (cones new highs) + n)
      (before_length (all_gained highs) (descendants new high) ∙ ap (λ n. length (descendants new high) * n) (gained_length highs))

  firsts_gained_length : (highs : List ℕ) → length (all_firsts_gained highs) ≡ firsts_gained old new highs
  firsts_gained_length [] = refl
  firsts_gained_length (high ∷ highs) =
      length-both (before_each (all_firsts (cones new highs)) (newly_below old new high)) (before_each (all_firsts_gained highs) (descendants new high))
      ∙ ap (λ n. n + length (before_each (all_firsts_gained highs) (descendants new high)))
      (before_length (all_firsts (cones new highs)) (newly_below old new high)
      ∙ ap (λ n. length (newly_below old new high) * n) (firsts_length (cones new highs)))
      ∙ ap (λ n. length (newly_below old new high) * firsts (cones new highs) + n)
      (before_length (all_firsts_gained highs) (descendants new high) ∙ ap (λ n. length (descendants new high) * n) (firsts_gained_length highs))

  abbrev pub cells_more : ℕ → List ℕ → List Query
  cells_more selector highs = map (query_at selector) (all_gained highs)

  abbrev pub rows_more : ℕ → List ℕ → List Query
  rows_more selector highs = map (query_at selector) (all_firsts_gained highs)

  pub cells_more_length : (selector : ℕ) (highs : List ℕ) → length (cells_more selector highs) ≡ size_gained old new highs
  cells_more_length selector highs = length-mapped (query_at selector) (all_gained highs) ∙ gained_length highs

  pub rows_more_length : (selector : ℕ) (highs : List ℕ) → length (rows_more selector highs) ≡ firsts_gained old new highs
  rows_more_length selector highs = length-mapped (query_at selector) (all_firsts_gained highs) ∙ firsts_gained_length highs

module _ (old new : Program) (lawful : Lawful new) where
  newly : (lists : List (List ℕ)) (high class : ℕ) (classes : List ℕ) → IsTrue (is_live new.graph high) →
      is_below new.graph.links class high ≡ true → is_below old.graph.links class high ≡ false → In lists classes →
      In (before_each lists (newly_below old.graph new.graph high)) (class ∷ classes)
  newly lists high class classes live below not_before i =
      In-turn (λ c. map (λ classes. c ∷ classes) lists) (newly_below old.graph new.graph high) class (class ∷ classes)
      (has_number-filtered (λ low. not (is_below old.graph.links low high)) (descendants new.graph high) class
      ∙ and_from (has_number (descendants new.graph high) class) (not (is_below old.graph.links class high))
      (cone_has new lawful class high live ∙ below) (ap not not_before))
      (In-map (λ classes. class ∷ classes) lists classes i)

  rest_not : (class high : ℕ) (classes highs : List ℕ) → is_below old.graph.links class high ≡ true →
      begins old.graph.links (class ∷ classes) (high ∷ highs) ≡ false → begins old.graph.links classes highs ≡ false
  rest_not class high classes highs t b = grind (arith, t, b)

  in_gained : (highs classes : List ℕ) → AreLive new lawful highs → begins new.graph.links classes highs ≡ true →
      begins old.graph.links classes highs ≡ false → length classes ≡ length highs → In (all_gained old.graph new.graph highs) classes
  in_gained highs [] live b n long = absurd (false≢true (sym n))
  in_gained [] (class ∷ classes) live b n long = absurd (omega (arith, long))
  in_gained (high ∷ highs) (class ∷ classes) live b n long =
      let parts = and_parts (is_below new.graph.links class high) (begins new.graph.links classes highs) b in
      let head = All-head (λ class. IsTrue (is_live new.graph class)) high highs live in
      let tail = All-tail (λ class. IsTrue (is_live new.graph class)) high highs live in
      let news = before_each (all_within (cones new.graph highs)) (newly_below old.graph new.graph high) in
      let others = before_each (all_gained old.graph new.graph highs) (descendants new.graph high) in
      by_cases (is_below old.graph.links class high)
      (λ t. In-later news others (class ∷ classes) (before new lawful (all_gained old.graph new.graph highs) high class classes head parts.0
      (in_gained highs classes tail parts.1 (rest_not class high classes highs t n) (omega (arith, long)))))
      (λ f. In-append news others (class ∷ classes) (newly (all_within (cones new.graph highs)) high class classes head parts.0 f
      (in_within new lawful highs classes tail parts.1 (omega (arith, long)))))

  in_firsts_gained : (highs classes : List ℕ) → AreLive new lawful highs → begins new.graph.links classes highs ≡ true →
      begins old.graph.links classes highs ≡ false → length classes < length highs → In (all_firsts_gained old.graph new.graph highs) classes
  in_firsts_gained highs [] live b n low = absurd (false≢true (sym n))
  in_firsts_gained [] (class ∷ classes) live b n low = absurd (omega (arith, low))
  in_firsts_gained (high ∷ highs) (class ∷ classes) live b n low =
      let parts = and_parts (is_below new.graph.links class high) (begins new.graph.links classes highs) b in
      let head = All-head (λ class. IsTrue (is_live new.graph class)) high highs live in
      let tail = All-tail (λ class. IsTrue (is_live new.graph class)) high highs live in
      let news = before_each (all_firsts (cones new.graph highs)) (newly_below old.graph new.graph high) in
      let others = before_each (all_firsts_gained old.graph new.graph highs) (descendants new.graph high) in
      by_cases (is_below old.graph.links class high)
      (λ t. In-later news others (class ∷ classes) (before new lawful (all_firsts_gained old.graph new.graph highs) high class classes head parts.0
      (in_firsts_gained highs classes tail parts.1 (rest_not class high classes highs t n) (omega (arith, low)))))
      (λ f. In-append news others (class ∷ classes) (newly (all_firsts (cones new.graph highs)) high class classes head parts.0 f
      (in_firsts new lawful highs classes tail parts.1 (omega (arith, low)))))

  pub in_cells_more : (query : Query) (highs : List ℕ) → AreLive new lawful highs → begins new.graph.links query.classes highs ≡ true →
      begins old.graph.links query.classes highs ≡ false → length query.classes ≡ length highs →
      In (cells_more old.graph new.graph query.selector highs) query
  in_cells_more query highs live b n long =
      In-map (query_at query.selector) (all_gained old.graph new.graph highs) query.classes (in_gained highs query.classes live b n long)

  pub in_rows_more : (query : Query) (highs : List ℕ) → AreLive new lawful highs → begins new.graph.links query.classes highs ≡ true →
      begins old.graph.links query.classes highs ≡ false → length query.classes < length highs →
      In (rows_more old.graph new.graph query.selector highs) query
  in_rows_more query highs live b n low =
      In-map (query_at query.selector) (all_firsts_gained old.graph new.graph highs) query.classes (in_firsts_gained highs query.classes live b n low)

  -- the classes where it is so
  pub record GainedAt (highs : List ℕ) : Type 0 where
    pub low : ℕ
    pub high : ℕ
    pub listed : IsTrue (has_number highs high)
    pub after : is_below new.graph.links low high ≡ true
    pub before : is_below old.graph.links low high ≡ false

  pub gained_at : (classes highs : List ℕ) → begins new.graph.links classes highs ≡ true → begins old.graph.links classes highs ≡ false →
      GainedAt highs
  gained_at [] highs b n = absurd (false≢true (sym n))
  gained_at (class ∷ classes) [] b n = absurd (false≢true b)
  gained_at (class ∷ classes) (high ∷ highs) b n =
      let parts = and_parts (is_below new.graph.links class high) (begins new.graph.links classes highs) b in
      by_cases (is_below old.graph.links class high)
      (λ t.
      let rest = gained_at classes highs parts.1 (rest_not class high classes highs t n) in
      let i = rest.listed in
      record { low = rest.low; high = rest.high; listed = grind (arith, i); after = rest.after; before = rest.before })
      (λ f. record { low = class; high = high; listed = grind arith; after = parts.0; before = f })
