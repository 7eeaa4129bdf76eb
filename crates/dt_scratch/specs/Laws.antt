-- What follows of look-up from scratch, in every lawful program.
use Rattle.std.specs.Prelude.{◌≡◌, ℕ, ◌<◌, IsTrue, true, ◌↔◌, List, [], filter, All}
use Rattle.std.specs.List.{Contains}
use Rattle.dt_graph.specs.Graph.{Link}
use Rattle.dt_graph.specs.Below.{is_below}
use Rattle.dt_selectors.specs.declared.limits.TheConstants.{BODIES}
use Rattle.dt_definitions.specs.Program.{Definition, Program, is_definition}
use Rattle.dt_definitions.specs.Lawful.{Lawful}
use Rattle.dt_scratch.specs.declared.reply.Answer.TheVariants.{Method, NotUnderstood}
use Rattle.dt_scratch.specs.Query.{Query}
use Rattle.dt_scratch.specs.Resolve.{are_below, applicable, answer}

-- the class is below no other
abbrev pub IsTop : List Link → ℕ → Type 0
IsTop links class = (other : ℕ) → is_below links class other ≡ true → class ≡ other

-- classes that are below no others see only the definition at these very classes
abbrev pub TopSeesItself : Type 0
TopSeesItself = (program : Program) (query : Query) → All (IsTop program.graph.links) query.classes →
    applicable program query ≡ filter (is_definition query.selector query.classes) program.definitions

-- the definition is applicable to the query, and in every position at or below each that is
abbrev pub IsLowest : Program → Query → Definition → Type 0
IsLowest program query d = Contains (applicable program query) d
    × All (λ other. IsTrue (are_below program.graph.links d.classes other.classes)) (applicable program query)

-- a method that is answered is that of a lowest definition
abbrev pub MethodsAreLowest : Type 0
MethodsAreLowest = (program : Program) → Lawful program → (query : Query) (body : ℕ) →
    answer program query ≡ Method body → (d : Definition) × IsLowest program query d × (d.body ≡ body)

-- a lowest definition is the one that answers
abbrev pub LowestAnswers : Type 0
LowestAnswers = (program : Program) → Lawful program → (query : Query) (d : Definition) →
    IsLowest program query d → answer program query ≡ Method d.body

-- a query isn't understood exactly where no definition is applicable
abbrev pub NotUnderstoodWhereNone : Type 0
NotUnderstoodWhereNone = (program : Program) → Lawful program → (query : Query) →
    (answer program query ≡ NotUnderstood) ↔ (applicable program query ≡ [])

-- the body of a method is in range
abbrev pub MethodsAreInRange : Type 0
MethodsAreInRange = (program : Program) → Lawful program → (query : Query) (body : ℕ) →
    answer program query ≡ Method body → body < BODIES

-- two programs see the same definitions for the query, in the same order of specificity
pub record SeeTheSame (query : Query) (old new : Program) : Type 0 where
  pub applicable_stay : (d : Definition) → Contains (applicable old query) d ↔ Contains (applicable new query) d
  pub order_stays : (a b : Definition) → Contains (applicable old query) a → Contains (applicable old query) b →
      are_below old.graph.links a.classes b.classes ≡ are_below new.graph.links a.classes b.classes

-- programs that see the same give the same answer
abbrev pub SameAnswersWhereSame : Type 0
SameAnswersWhereSame = (old new : Program) → Lawful old → Lawful new → (query : Query) →
    SeeTheSame query old new → answer old query ≡ answer new query
