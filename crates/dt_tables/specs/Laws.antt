-- What follows of commits.
use Rattle.std.specs.Prelude.{◌≡◌, ◌↔◌, true, List, [], ◌∷◌, ◌++◌, Result, Err}
use Rattle.dt_definitions.specs.Program.{Program}
use Rattle.dt_definitions.specs.Lawful.{Lawful}
use Rattle.dt_definitions.specs.declared.edit.Edit.{Edit}
use Rattle.dt_propagate.specs.Limits.{HasMoreCells, HasMoreRows}
use Rattle.dt_tables.specs.Listed.{has_more_cells, has_more_rows}
use Rattle.dt_tables.specs.Commit.{Commits, after_commits}
use Rattle.dt_tables.specs.declared.commit_fault.CommitFault.{CommitFault}
use Rattle.dt_tables.specs.declared.commit_fault.CommitFault.TheVariants as commit_fault

-- what a commit is answered
abbrev pub CommitAnswer : Type 0
CommitAnswer = Result (Unit {0}) CommitFault

-- the answer isn't want of memory
abbrev pub IsDecided : CommitAnswer → Type 0
IsDecided answer = answer ≡ Err commit_fault.NoMemory → ⊥

-- a commit has one answer and leaves one program, but for want of memory
abbrev pub CommitsHaveOneAnswer : Type 0
CommitsHaveOneAnswer = (old p q : Program) (edits : List Edit) (a b : CommitAnswer)
    → IsDecided a → IsDecided b → Commits old edits p a → Commits old edits q b → (a ≡ b) × (p ≡ q)

-- and it has such an answer
abbrev pub CommitsHaveAnAnswer : Type 0
CommitsHaveAnAnswer = (old : Program) (edits : List Edit)
    → (new : Program) × (answer : CommitAnswer) × IsDecided answer × Commits old edits new answer

-- at every other answer than Ok the program is as it was
abbrev pub OkAloneCommits : Type 0
OkAloneCommits = (old new : Program) (edits : List Edit) (fault : CommitFault) → Commits old edits new (Err fault) → new ≡ old

-- the program after batches and one more is the one that its commit leaves, whatever it is answered but want of memory
abbrev pub CommitsMakeHistories : Type 0
CommitsMakeHistories = (history : List (List Edit)) (batch : List Edit) (new : Program) (answer : CommitAnswer)
    → IsDecided answer → Commits (after_commits history) batch new answer → after_commits (history ++ batch ∷ []) ≡ new

-- in a lawful program cells and rows are counted: there are more than the limit exactly where so many can be named
abbrev pub CellsAreCounted : Type 0
CellsAreCounted = (p : Program) → Lawful p → (has_more_cells p ≡ true) ↔ HasMoreCells p

abbrev pub RowsAreCounted : Type 0
RowsAreCounted = (p : Program) → Lawful p → (has_more_rows p ≡ true) ↔ HasMoreRows p
