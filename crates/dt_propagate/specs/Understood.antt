-- How much a program understands: its cells and its rows.
use Rattle.std.specs.Prelude.{◌≢◌, ℕ, List, [], ◌++◌}
use Rattle.dt_definitions.specs.Program.{Program}
use Rattle.dt_scratch.specs.declared.reply.Answer.TheVariants.{NotUnderstood}
use Rattle.dt_scratch.specs.Query.{Query}
use Rattle.dt_scratch.specs.Resolve.{cell}

-- the cell of the query has an answer
abbrev pub Understands : Program → Query → Type 0
Understands program query = cell program query ≢ NotUnderstood

-- the query that goes on from the prefix by these classes
abbrev pub gone_on : Query → List ℕ → Query
gone_on prefix rest = record { selector = prefix.selector; classes = prefix.classes ++ rest }

-- the prefix goes on by these classes, one at least, to a query that is understood
pub record GoesOn (program : Program) (prefix : Query) (rest : List ℕ) : Type 0 where
  pub some : rest ≢ []
  pub understood : Understands program (gone_on prefix rest)

-- a row: a selector with the first classes, none or more but not all, of one of its understood queries
abbrev pub IsRow : Program → Query → Type 0
IsRow program prefix = (rest : List ℕ) × GoesOn program prefix rest
