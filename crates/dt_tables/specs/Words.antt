-- The words of a program's table: what a commit, and what a history of commits, makes of them.
use Rattle.std.specs.Prelude.{◌≡◌, List, [], ◌∷◌, ◌++◌, filter, Result, Ok, Err}
use Rattle.std.specs.FinMap.{empty}
use Rattle.dt_pages.specs.Reading.{Reading}
use Rattle.dt_pages.specs.Image.{Image, look_up}
use Rattle.dt_definitions.specs.Program.{Program, empty_program}
use Rattle.dt_definitions.specs.declared.edit.Edit.{Edit}
use Rattle.dt_scratch.specs.declared.reply.Change.{Change}
use Rattle.dt_propagate.specs.Differences as propagated
use Rattle.dt_cells.specs.Held.{Held}
use Rattle.dt_cells.specs.Kind.{Kind}
use Rattle.dt_cells.specs.Following.{IsTableOf, IsImageAfter}
use Rattle.dt_tables.specs.Kept.{is_covered}
use Rattle.dt_tables.specs.Commit.{Commits, committed, after_commit, after_commits}
use Rattle.dt_tables.specs.Laws.{CommitAnswer, IsDecided}
use Rattle.dt_tables.specs.declared.commit_fault.CommitFault.{CommitFault}

-- a program with the words of its table
pub record WithTable : Type 0 where
  pub program : Program
  pub words : Image

-- the empty program, with no word set
abbrev pub empty_with_table : WithTable
empty_with_table = record { program = empty_program; words = empty }

-- The words of a table of the old program become these words: those that the kind makes of the differences of the two
-- programs, as far as it covers their arities; no further word changes.
pub record AreNextWords (k : Kind) (old new : Program) (x y : Reading) : Type 0 where
  pub held : Held
  pub table : IsTableOf k k.shows 1 x held old
  pub changes : List Change
  pub differences : propagated.AreDifferences old new changes
  pub words : IsImageAfter k x held (filter (is_covered k.arities) changes) old new y

-- what the answer of a commit says of the words: at every other answer than Ok they stay
abbrev pub Renews : Kind → WithTable → WithTable → CommitAnswer → Type 0
Renews k old new (Ok _) = AreNextWords k old.program new.program (look_up old.words) (look_up new.words)
Renews k old new (Err fault) = new.words ≡ old.words

-- the words after a batch of which this is made
abbrev pub AreWordsOf : Kind → Program → Result Program CommitFault → Reading → Reading → Type 0
AreWordsOf k old (Ok new) x y = AreNextWords k old new x y
AreWordsOf k old (Err fault) x y = y ≡ x

-- the words after these batches, each committed or refused, where a table of the program had these words
abbrev pub AreWordsAfterFrom : Kind → Program → Reading → List (List Edit) → Reading → Type 0
AreWordsAfterFrom k p x [] y = y ≡ x
AreWordsAfterFrom k p x (batch ∷ batches) y =
    (z : Reading) × AreWordsOf k p (committed p batch) x z × AreWordsAfterFrom k (after_commit p batch) z batches y

-- and from the empty program's on
abbrev pub AreWordsAfter : Kind → List (List Edit) → Reading → Type 0
AreWordsAfter k batches y = AreWordsAfterFrom k empty_program (look_up empty) batches y

-- the words after batches and one more are those that its commit leaves, whatever it is answered but want of memory
abbrev pub CommitsMakeWords : Kind → Type 0
CommitsMakeWords k = (history : List (List Edit)) (batch : List Edit) (old new : WithTable) (answer : CommitAnswer)
    → IsDecided answer → old.program ≡ after_commits history → AreWordsAfter k history (look_up old.words)
    → Commits old.program batch new.program answer → Renews k old new answer
    → AreWordsAfter k (history ++ batch ∷ []) (look_up new.words)
