-- What a commit answers, and that there is one answer and no other.
use Rattle.std.proofs.Common.{◌≡◌, Bool, true, false, List, [], ◌∷◌, ◌++◌, Ok, Err, Result, refl, sym, ap, ◌∙◌}
use Rattle.std.specs.Result.{result_unwrap_or}
use Rattle.dt_graph.specs.Refusal.{cause_if, first_cause, ok_unless}
use Rattle.dt_graph.proofs.ListMembers.{by_cases}
use Rattle.dt_definitions.specs.Program.{Program, empty_program}
use Rattle.dt_definitions.specs.Lawful.{Lawful}
use Rattle.dt_definitions.specs.Step.{step_batch, Refused}
use Rattle.dt_definitions.specs.declared.edit.Edit.{Edit}
use Rattle.dt_definitions.specs.declared.why.Why.{Why}
use Rattle.dt_propagate.specs.Limits.{HasMoreCells, HasMoreRows, IsFullBy, IsWithinLimits}
use Rattle.dt_propagate.specs.declared.change_fault.ChangeFault.{ChangeFault}
use Rattle.dt_propagate.specs.declared.change_fault.ChangeFault.TheVariants as change_fault
use Rattle.dt_tables.specs.Listed.{has_more_cells, has_more_rows}
use Rattle.dt_tables.specs.Commit.{committed, if_within, Commits, after_commit, after_commits, after_commits_from, by_change}
use Rattle.dt_tables.specs.Laws.{CommitAnswer, IsDecided, CommitsHaveOneAnswer, CommitsHaveAnAnswer, OkAloneCommits, CommitsMakeHistories, CellsAreCounted, RowsAreCounted}
use Rattle.dt_tables.specs.declared.commit_fault.CommitFault.{CommitFault}
use Rattle.dt_tables.specs.declared.commit_fault.CommitFault.TheVariants as commit_fault

-- ---- what a commit makes, case by case

module _ (old new : Program) (edits : List Edit) (accepted : step_batch old edits ≡ Ok new) where
  by_tests : (cells rows : Bool) → has_more_cells new ≡ cells → has_more_rows new ≡ rows
      → committed old edits ≡ ok_unless (first_cause (cause_if cells commit_fault.CellsFull ∷ cause_if rows commit_fault.RowsFull ∷ [])) new
  by_tests cells rows c r = ap if_within accepted
      ∙ ap (λ b. ok_unless (first_cause (cause_if b commit_fault.CellsFull ∷ cause_if (has_more_rows new) commit_fault.RowsFull ∷ [])) new) c
      ∙ ap (λ b. ok_unless (first_cause (cause_if cells commit_fault.CellsFull ∷ cause_if b commit_fault.RowsFull ∷ [])) new) r

  pub cells_full : has_more_cells new ≡ true → committed old edits ≡ Err commit_fault.CellsFull
  cells_full c = by_tests true (has_more_rows new) c refl

  pub rows_full : has_more_cells new ≡ false → has_more_rows new ≡ true → committed old edits ≡ Err commit_fault.RowsFull
  rows_full c r = by_tests false true c r

  pub stands : has_more_cells new ≡ false → has_more_rows new ≡ false → committed old edits ≡ Ok new
  stands c r = by_tests false false c r

pub refused : (old : Program) (edits : List Edit) (at : _) (why : Why) → step_batch old edits ≡ Err (record { at = at; why = why })
    → committed old edits ≡ Err (commit_fault.Refused at why)
refused old edits at why e = ap if_within e

-- ---- one answer

one_fault : (r : Result Program CommitFault) (f g : CommitFault) → r ≡ Err f → r ≡ Err g → f ≡ g
one_fault r f g e h = cc

pub commits_have_one_answer : CommitsHaveOneAnswer
commits_have_one_answer old p q edits (Ok _) (Ok _) da db a b = let same : p ≡ q = cc in (refl, same)
commits_have_one_answer old p q edits (Ok _) (Err (commit_fault.Refused at why)) da db a b = let step = b.0 in absurd cc
commits_have_one_answer old p q edits (Ok _) (Err commit_fault.CellsFull) da db a b = let step = b.0 in absurd cc
commits_have_one_answer old p q edits (Ok _) (Err commit_fault.RowsFull) da db a b = let step = b.0 in absurd cc
commits_have_one_answer old p q edits (Ok _) (Err commit_fault.NoMemory) da db a b = absurd (db refl)
commits_have_one_answer old p q edits (Err (commit_fault.Refused at why)) (Ok _) da db a b = let step = a.0 in absurd cc
commits_have_one_answer old p q edits (Err (commit_fault.Refused at why)) (Err (commit_fault.Refused place other)) da db a b =
    (ap (λ fault. Err fault) (one_fault (committed old edits) (commit_fault.Refused at why) (commit_fault.Refused place other) a.0 b.0), a.1 ∙ sym b.1)
commits_have_one_answer old p q edits (Err (commit_fault.Refused at why)) (Err commit_fault.CellsFull) da db a b = let step = a.0 in let again = b.0 in absurd cc
commits_have_one_answer old p q edits (Err (commit_fault.Refused at why)) (Err commit_fault.RowsFull) da db a b = let step = a.0 in let again = b.0 in absurd cc
commits_have_one_answer old p q edits (Err (commit_fault.Refused at why)) (Err commit_fault.NoMemory) da db a b = absurd (db refl)
commits_have_one_answer old p q edits (Err commit_fault.CellsFull) (Ok _) da db a b = let step = a.0 in absurd cc
commits_have_one_answer old p q edits (Err commit_fault.CellsFull) (Err (commit_fault.Refused at why)) da db a b = let step = a.0 in let again = b.0 in absurd cc
commits_have_one_answer old p q edits (Err commit_fault.CellsFull) (Err commit_fault.CellsFull) da db a b = (refl, a.1 ∙ sym b.1)
commits_have_one_answer old p q edits (Err commit_fault.CellsFull) (Err commit_fault.RowsFull) da db a b = let step = a.0 in let again = b.0 in absurd cc
commits_have_one_answer old p q edits (Err commit_fault.CellsFull) (Err commit_fault.NoMemory) da db a b = absurd (db refl)
commits_have_one_answer old p q edits (Err commit_fault.RowsFull) (Ok _) da db a b = let step = a.0 in absurd cc
commits_have_one_answer old p q edits (Err commit_fault.RowsFull) (Err (commit_fault.Refused at why)) da db a b = let step = a.0 in let again = b.0 in absurd cc
commits_have_one_answer old p q edits (Err commit_fault.RowsFull) (Err commit_fault.CellsFull) da db a b = let step = a.0 in let again = b.0 in absurd cc
commits_have_one_answer old p q edits (Err commit_fault.RowsFull) (Err commit_fault.RowsFull) da db a b = (refl, a.1 ∙ sym b.1)
commits_have_one_answer old p q edits (Err commit_fault.RowsFull) (Err commit_fault.NoMemory) da db a b = absurd (db refl)
commits_have_one_answer old p q edits (Err commit_fault.NoMemory) other da db a b = absurd (da refl)

record Decided (old : Program) (edits : List Edit) : Type 0 where
  new : Program
  answer : CommitAnswer
  decided : IsDecided answer
  commits : Commits old edits new answer

decide : (old : Program) (edits : List Edit) → Decided old edits
decide old edits = by_step (step_batch old edits) refl
  where
    by_step : (s : Result Program Refused) → step_batch old edits ≡ s → Decided old edits
    by_step (Err r) e = record {
      new = old;
      answer = Err (commit_fault.Refused r.at r.why);
      decided = λ q. cc;
      commits = (refused old edits r.at r.why e, refl);
    }
    by_step (Ok new) e = by_cases (has_more_cells new)
        (λ c. record { new = old; answer = Err commit_fault.CellsFull; decided = λ q. cc; commits = (cells_full old new edits e c, refl) })
        (λ c. by_cases (has_more_rows new)
        (λ r. record { new = old; answer = Err commit_fault.RowsFull; decided = λ q. cc; commits = (rows_full old new edits e c r, refl) })
        (λ r. record { new = new; answer = Ok tt; decided = λ q. cc; commits = stands old new edits e c r }))

pub commits_have_an_answer : CommitsHaveAnAnswer
commits_have_an_answer old edits = let one = decide old edits in (one.new, one.answer, one.decided, one.commits)

pub ok_alone_commits : OkAloneCommits
ok_alone_commits old new edits (commit_fault.Refused at why) h = h.1
ok_alone_commits old new edits commit_fault.CellsFull h = h.1
ok_alone_commits old new edits commit_fault.RowsFull h = h.1
ok_alone_commits old new edits commit_fault.NoMemory h = h

-- ---- histories

goes_on : (p : Program) (history more : List (List Edit)) → after_commits_from p (history ++ more) ≡ after_commits_from (after_commits_from p history) more
goes_on p [] more = refl
goes_on p (batch ∷ history) more = goes_on (after_commit p batch) history more

left : (old new : Program) (edits : List Edit) (answer : CommitAnswer) → IsDecided answer → Commits old edits new answer → after_commit old edits ≡ new
left old new edits (Ok _) d h = ap (λ s. result_unwrap_or s old) h
left old new edits (Err (commit_fault.Refused at why)) d h = ap (λ s. result_unwrap_or s old) h.0 ∙ sym h.1
left old new edits (Err commit_fault.CellsFull) d h = ap (λ s. result_unwrap_or s old) h.0 ∙ sym h.1
left old new edits (Err commit_fault.RowsFull) d h = ap (λ s. result_unwrap_or s old) h.0 ∙ sym h.1
left old new edits (Err commit_fault.NoMemory) d h = absurd (d refl)

pub commits_make_histories : CommitsMakeHistories
commits_make_histories history batch new answer d h =
    goes_on empty_program history (batch ∷ []) ∙ left (after_commits history) new batch answer d h

-- ---- the limits of cells and rows

module _ (cells : CellsAreCounted) (rows : RowsAreCounted) where
  no_more_cells : (p : Program) → Lawful p → (HasMoreCells p → ⊥) → has_more_cells p ≡ false
  no_more_cells p lawful none = by_cases (has_more_cells p) (λ t. absurd (none ((cells p lawful).0 t))) (λ f. f)

  no_more_rows : (p : Program) → Lawful p → (HasMoreRows p → ⊥) → has_more_rows p ≡ false
  no_more_rows p lawful none = by_cases (has_more_rows p) (λ t. absurd (none ((rows p lawful).0 t))) (λ f. f)

  pub commits_within : (old new : Program) (edits : List Edit) → Lawful new → step_batch old edits ≡ Ok new → IsWithinLimits new
      → committed old edits ≡ Ok new
  commits_within old new edits lawful accepted within =
      stands old new edits accepted (no_more_cells new lawful within.few_cells) (no_more_rows new lawful within.few_rows)

  pub commits_full : (old new stays : Program) (edits : List Edit) → Lawful new → step_batch old edits ≡ Ok new → stays ≡ old
      → (fault : ChangeFault) → IsFullBy new fault → Commits old edits stays (Err (by_change fault))
  commits_full old new stays edits lawful accepted same change_fault.CellsFull full =
      (cells_full old new edits accepted ((cells new lawful).1 full), same)
  commits_full old new stays edits lawful accepted same change_fault.RowsFull full =
      (rows_full old new edits accepted (no_more_cells new lawful full.few_cells) ((rows new lawful).1 full.more_rows), same)
  commits_full old new stays edits lawful accepted same change_fault.NoMemory full = same
