-- The words of a table follow a batch, and a history.
use Rattle.std.proofs.Common.{◌≡◌, ℕ, List, [], ◌∷◌, ◌++◌, filter, Ok, Err, refl, sym, ap, subst}
use Rattle.dt_pages.specs.Reading.{Reading}
use Rattle.dt_pages.specs.Image.{look_up}
use Rattle.dt_definitions.specs.Program.{Program, empty_program}
use Rattle.dt_definitions.specs.declared.edit.Edit.{Edit}
use Rattle.dt_scratch.specs.declared.reply.Change.{Change}
use Rattle.dt_propagate.specs.Differences as propagated
use Rattle.dt_cells.specs.Held.{Held}
use Rattle.dt_cells.specs.Kind.{Kind}
use Rattle.dt_cells.specs.Following.{IsTableOf, IsImageAfter}
use Rattle.dt_tables.specs.Kept.{is_covered}
use Rattle.dt_tables.specs.Commit.{Commits, committed, after_commit, after_commits_from}
use Rattle.dt_tables.specs.Laws.{CommitAnswer, IsDecided}
use Rattle.dt_tables.specs.Words.{WithTable, AreNextWords, Renews, AreWordsOf, AreWordsAfterFrom, CommitsMakeWords}
use Rattle.dt_tables.specs.declared.commit_fault.CommitFault.TheVariants as commit_fault

-- what the kind makes of the covered differences are the next words
pub next_words : (k : Kind) (stands : Reading → Held → Type 0) → ((x : Reading) (held : Held) → stands x held → k.shows x held)
    → (old new : Program) (x y : Reading) (held : Held) → IsTableOf k stands 1 x held old → (most : ℕ) → k.arities ≡ most → (items : List Change)
    → (changes : List Change) × propagated.AreDifferences old new changes × (items ≡ filter (is_covered most) changes)
    → IsImageAfter k x held items old new y → AreNextWords k old new x y
next_words k stands shows old new x y held table most same items found image = record {
  held = held;
  table = record { standing = shows x held table.standing; holds = table.holds; heads = table.heads; strays = table.strays };
  changes = found.0;
  differences = found.1;
  words = subst (λ n. IsImageAfter k x held (filter (is_covered n) found.0) old new y) (sym same)
      (subst (λ changes. IsImageAfter k x held changes old new y) found.2 image);
}

-- ---- histories

goes_on : (k : Kind) (p : Program) (x : Reading) (history : List (List Edit)) (batch : List Edit) (y z : Reading)
    → AreWordsAfterFrom k p x history y
    → AreWordsOf k (after_commits_from p history) (committed (after_commits_from p history) batch) y z
    → AreWordsAfterFrom k p x (history ++ batch ∷ []) z
goes_on k p x [] batch y z before next =
    (z, subst (λ w. AreWordsOf k p (committed p batch) w z) before next, refl)
goes_on k p x (first ∷ history) batch y z before next =
    (before.0, before.1, goes_on k (after_commit p first) before.0 history batch y z before.2 next)

words_of : (k : Kind) (batch : List Edit) (old new : WithTable) (answer : CommitAnswer) → IsDecided answer
    → Commits old.program batch new.program answer → Renews k old new answer
    → AreWordsOf k old.program (committed old.program batch) (look_up old.words) (look_up new.words)
words_of k batch old new (Ok _) d h words =
    subst (λ made. AreWordsOf k old.program made (look_up old.words) (look_up new.words)) (sym h) words
words_of k batch old new (Err (commit_fault.Refused at why)) d h words =
    subst (λ made. AreWordsOf k old.program made (look_up old.words) (look_up new.words)) (sym h.0) (ap look_up words)
words_of k batch old new (Err commit_fault.CellsFull) d h words =
    subst (λ made. AreWordsOf k old.program made (look_up old.words) (look_up new.words)) (sym h.0) (ap look_up words)
words_of k batch old new (Err commit_fault.RowsFull) d h words =
    subst (λ made. AreWordsOf k old.program made (look_up old.words) (look_up new.words)) (sym h.0) (ap look_up words)
words_of k batch old new (Err commit_fault.NoMemory) d h words = absurd (d refl)

pub commits_make_words : (k : Kind) → CommitsMakeWords k
commits_make_words k history batch old new answer d same before h words =
    goes_on k empty_program _ history batch (look_up old.words) (look_up new.words) before
    (subst (λ p. AreWordsOf k p (committed p batch) (look_up old.words) (look_up new.words)) same
    (words_of k batch old new answer d h words))
