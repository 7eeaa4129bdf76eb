-- The queries that a table holds, each with its answer, and what changes make of them.
use Rattle.std.specs.Prelude.{◌≡◌, ◌≢◌, ℕ, ◌<◌, ◌≤◌, ◌^◌, ◌==◌, Bool, if◌then◌else◌, List, [], ◌∷◌, length, take, All, Contains}
use Rattle.std.specs.List.{list_any}
use Rattle.std.specs.List.Sorted.{IsStrictlySortedBy}
use Rattle.dt_cells.specs.Regions.{class_numbers, selector_numbers, place_of}
use Rattle.dt_scratch.specs.Query.{Query, arity_of_query, is_same_query, query_order}
use Rattle.dt_scratch.specs.declared.reply.Answer.{Answer}
use Rattle.dt_scratch.specs.declared.reply.Answer.TheVariants.{Method, NotUnderstood}
use Rattle.dt_scratch.specs.declared.reply.Change.{Change}

-- an answer for every query; a query is held where its answer isn't "not understood"
abbrev pub Held : Type 0
Held = Query → Answer

-- nothing is held
abbrev pub none_held : Held
none_held query = NotUnderstood

-- the query is held
abbrev pub IsHeld : Held → Query → Type 0
IsHeld held query = held query ≢ NotUnderstood

-- the changes put into what is held
abbrev pub held_after : Held → List Change → Held
held_after held [] query = held query
held_after held (change ∷ changes) query = if is_same_query change.query query then change.answer else held_after held changes query

-- the held queries of a selector have one arity
abbrev pub HasOneArity : Held → Type 0
HasOneArity held = (q r : Query) → IsHeld held q → IsHeld held r → q.selector ≡ r.selector → arity_of_query q ≡ arity_of_query r

-- the held queries of the query's selector have the query's arity
abbrev pub HasArityOf : Held → Query → Type 0
HasArityOf held q = (r : Query) → IsHeld held r → r.selector ≡ q.selector → arity_of_query r ≡ arity_of_query q

-- a row: a selector and a prefix of the classes of a held query
abbrev pub Row : Type 0
Row = ℕ × List ℕ

-- every row of what is held stands in the list
abbrev pub AreRows : Held → List Row → Type 0
AreRows held rows = (q : Query) (n : ℕ) → IsHeld held q → n < arity_of_query q → Contains rows (q.selector, take n q.classes)

-- what is held has at most so many rows
abbrev pub most_rows : ℕ
most_rows = 16384

-- there are at most so many rows
abbrev pub HasFewRows : ℕ → Held → Type 0
HasFewRows most held = (rows : List Row) × (length rows ≤ most) × AreRows held rows

-- some change is of the selector
abbrev pub is_changed : List Change → ℕ → Bool
is_changed changes selector = list_any (λ change. change.query.selector == selector) changes

-- the address is the place word of a selector with a change
abbrev pub is_changed_place : List Change → ℕ → Bool
is_changed_place changes address = list_any (λ change. place_of change.query.selector == address) changes

-- the numbers of a query are in their ranges
pub record IsInRange (q : Query) : Type 0 where
  pub selector : q.selector < selector_numbers
  pub classes : All (λ class. class < class_numbers) q.classes

-- the number of the body, if there is one, is in its range
abbrev pub HasBodyInRange : Answer → Type 0
HasBodyInRange (Method body) = body < 2 ^ 16
HasBodyInRange _ = Unit {0}

-- a change may be staged where the arities are these: its numbers are in their ranges
pub record IsStageableChange (low high : ℕ) (change : Change) : Type 0 where
  pub least : low ≤ arity_of_query change.query
  pub greatest : arity_of_query change.query ≤ high
  pub range : IsInRange change.query
  pub body : HasBodyInRange change.answer

-- the changes may be staged over what is held
pub record IsStageable (low high : ℕ) (held : Held) (changes : List Change) : Type 0 where
  pub ascending : IsStrictlySortedBy (λ a b. query_order a.query b.query) changes
  pub each : All (IsStageableChange low high) changes
  pub one_arity : HasOneArity (held_after held changes)
  pub few_rows : HasFewRows most_rows (held_after held changes)
