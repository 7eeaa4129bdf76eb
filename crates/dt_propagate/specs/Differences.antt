-- Where two programs answer differently.
use Rattle.std.specs.Prelude.{◌≡◌, ◌≢◌, Bool, true, false, ℕ, ◌<◌, List, length, map, All}
use Rattle.std.specs.List.{Contains}
use Rattle.std.specs.declared.cmp.Ordering.{Ordering}
use Rattle.std.specs.declared.cmp.Ordering.TheVariants.{Less, Equal, Greater}
use Rattle.dt_graph.specs.InOrder.{Ascends}
use Rattle.dt_definitions.specs.Program.{Program}
use Rattle.dt_scratch.specs.declared.reply.Change.{Change}
use Rattle.dt_scratch.specs.Query.{Query, query_order}
use Rattle.dt_scratch.specs.Resolve.{cell}

-- ---- lists that list a set

-- whether the comparison says less
abbrev pub is_less : Ordering → Bool
is_less Less = true
is_less Equal = false
is_less Greater = false

-- each element is less than the next, so none stands twice
abbrev pub Ascending : {T : Type 0} → (T → T → Ordering) → List T → Type 0
Ascending order elements = Ascends (λ x. x) (λ a b. is_less (order a b)) elements

-- the elements are exactly those of which it holds, in ascending order
pub record AreAll {T : Type 0} (order : T → T → Ordering) (Holds : T → Type 0) (elements : List T) : Type 0 where
  pub ascending : Ascending order elements
  pub each_holds : All Holds elements
  pub none_missing : (x : T) → Holds x → Contains elements x

-- it holds of more than so many
abbrev pub MoreThan : {T : Type 0} → (T → T → Ordering) → (T → Type 0) → ℕ → Type 0
MoreThan {T} order Holds n = (some : List T) × Ascending order some × All Holds some × (n < length some)

-- ---- differences

-- the query has another cell in the new program than in the old one
abbrev pub Differs : Program → Program → Query → Type 0
Differs old new query = cell old query ≢ cell new query

-- the change tells the new cell of its query
abbrev pub TellsNewCell : Program → Change → Type 0
TellsNewCell new change = change.answer ≡ cell new change.query

-- the changes are of exactly the queries whose cells differ, in ascending order, each with its new cell
pub record AreDifferences (old new : Program) (changes : List Change) : Type 0 where
  pub queries : AreAll query_order (Differs old new) (map (λ change. change.query) changes)
  pub answers : All (TellsNewCell new) changes
