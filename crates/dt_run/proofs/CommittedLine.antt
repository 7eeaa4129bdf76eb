-- What the answer of a commit says of the line of its batch, and of the version after it.
use Rattle.std.proofs.Common.{◌≡◌, ◌==◌, ℕ, ◌+◌, Bool, true, false, [], ◌∷◌, Result, Ok, Err, refl, sym, ap, ◌∙◌, subst}
use Rattle.std.specs.Prelude.{if◌then◌else◌}
use Rattle.dt_graph.specs.Refusal.{cause_if, first_cause, ok_unless}
use Rattle.dt_definitions.specs.Program.{Program}
use Rattle.dt_definitions.specs.Step.{step_batch, Refused as Refusal}
use Rattle.std.proofs.lemmas.Bool.{eqb-true}
use Rattle.dt_cells.specs.HeldLaws.{if_false, by_cases}
use Rattle.dt_tables.specs.Listed.{has_more_cells, has_more_rows}
use Rattle.dt_tables.specs.Commit.{Commits, if_within}
use Rattle.dt_tables.specs.Laws.{CommitAnswer}
use Rattle.dt_tables.specs.declared.commit_fault.CommitFault.{CommitFault}
use Rattle.dt_tables.specs.declared.commit_fault.CommitFault.TheVariants as fault
use Rattle.dt_run.specs.Edits.{line_by, edit_line}
use Rattle.dt_run.specs.Performing.{stepped_by, after_batch, Comes, Tells}
use Rattle.dt_run.specs.Versions.{Batch}
use Rattle.dt_run.specs.declared.log.EditLine.{EditLine}
use Rattle.dt_run.specs.declared.log.EditLine.TheVariants.{Accepted, Refused, VersionsFull, CellsFull, RowsFull}
use Rattle.dt_run.specs.declared.perform.snapshot.Snapshot.{Snapshot}

-- the line of a commit that comes so; no commit is defined to want memory
abbrev pub line_from : ℕ → Result Program CommitFault → EditLine
line_from version (Ok new) = Accepted (version + 1)
line_from version (Err (fault.Refused at why)) = Refused at why
line_from version (Err fault.CellsFull) = CellsFull
line_from version (Err fault.RowsFull) = RowsFull
line_from version (Err fault.NoMemory) = VersionsFull

-- the version after it
abbrev pub after_from : Snapshot → Result Program CommitFault → Snapshot
after_from here (Ok new) = record { version = here.version + 1; program = new }
after_from here (Err full) = here

-- the program at this version
abbrev pub snapshot_of : ℕ → Program → Snapshot
snapshot_of version program = record { version = version; program = program }

-- a program with these answers to its limits, as a commit takes it
abbrev pub by_limits : Bool → Bool → Program → Result Program CommitFault
by_limits cells rows p = ok_unless (first_cause (cause_if cells fault.CellsFull ∷ cause_if rows fault.RowsFull ∷ [])) p

new_line : (version : ℕ) (p : Program) (cells rows : Bool)
    → (if cells then CellsFull else if rows then RowsFull else Accepted (version + 1)) ≡ line_from version (by_limits cells rows p)
new_line version p true rows = refl
new_line version p false true = refl
new_line version p false false = refl

new_after : (here : Snapshot) (p : Program) (cells rows : Bool)
    → (if cells then here else if rows then here else record { version = here.version + 1; program = p }) ≡ after_from here (by_limits cells rows p)
new_after here p true rows = refl
new_after here p false true = refl
new_after here p false false = refl

line_agrees : (version : ℕ) (r : Result Program Refusal) → line_by version r ≡ line_from version (if_within r)
line_agrees version (Ok p) = new_line version p (has_more_cells p) (has_more_rows p)
line_agrees version (Err refused) = refl

after_agrees : (here : Snapshot) (r : Result Program Refusal) → stepped_by here r ≡ after_from here (if_within r)
after_agrees here (Ok p) = new_after here p (has_more_cells p) (has_more_rows p)
after_agrees here (Err refused) = refl

comes_by : (version : ℕ) (old : Program) (batch : Batch) (result : Result Program CommitFault) → if_within (step_batch old batch) ≡ result
    → Comes version old batch (line_from version result) (after_from (snapshot_of version old) result)
comes_by version old batch result is = record {
  line_is = line_agrees version (step_batch old batch) ∙ ap (line_from version) is;
  later_is = after_agrees (snapshot_of version old) (step_batch old batch) ∙ ap (after_from (snapshot_of version old)) is;
}

pub commit_tells : (old new : Program) (batch : Batch) (answer : CommitAnswer) → Commits old batch new answer
    → (version : ℕ) → Tells version old batch new answer
commit_tells old new batch (Ok done) c version = comes_by version old batch (Ok new) c
commit_tells old new batch (Err (fault.Refused at why)) c version =
    (c.1, comes_by version old batch (Err (fault.Refused at why)) c.0)
commit_tells old new batch (Err fault.CellsFull) c version = (c.1, comes_by version old batch (Err fault.CellsFull) c.0)
commit_tells old new batch (Err fault.RowsFull) c version = (c.1, comes_by version old batch (Err fault.RowsFull) c.0)
commit_tells old new batch (Err fault.NoMemory) c version = c

-- where there may be a further version, a batch that comes so has this line, and leaves the program that stands
further : (version limit : ℕ) → (version ≡ limit → ⊥) → (version == limit) ≡ false
further version limit other = by_cases (version == limit) (λ t. absurd (other (eqb-true version limit t))) (λ f. f)

pub line_of_commit : (limit version : ℕ) (old : Program) (batch : Batch) (line : EditLine) (later : Snapshot) → (version ≡ limit → ⊥)
    → Comes version old batch line later → line ≡ edit_line limit version old batch
line_of_commit limit version old batch line later other comes =
    sym (if_false (version == limit) VersionsFull (line_by version (step_batch old batch)) (further version limit other) ∙ comes.line_is)

pub stays_at : (limit version : ℕ) (old new : Program) (batch : Batch) (line : EditLine) → (version ≡ limit → ⊥) → new ≡ old
    → Comes version old batch line (snapshot_of version old) → snapshot_of version new ≡ after_batch limit (snapshot_of version old) batch
stays_at limit version old new batch line other same comes =
    ap (snapshot_of version) same
    ∙ sym (if_false (version == limit) (snapshot_of version old) (stepped_by (snapshot_of version old) (step_batch old batch)) (further version limit other)
    ∙ comes.later_is)

-- what a commit tells with a fault, where it is this one
pub told_with : (version : ℕ) (old new : Program) (batch : Batch) (full is : CommitFault) → full ≡ is
    → Tells version old batch new (Err full) → Tells version old batch new (Err is)
told_with version old new batch full is same told = subst (λ (f : CommitFault). Tells version old batch new (Err f)) same told
