-- How the history grows by the batches of a phase, and what their lines say of it.
use Rattle.std.proofs.Common.{◌≡◌, ◌==◌, ℕ, ◌+◌, Bool, true, false, if◌then◌else◌, List, [], ◌∷◌, ◌++◌, length, take, suc, Result, Ok, Err, refl, sym, ap, ◌∙◌, subst, arith, append_assoc, length-append}
use Rattle.std.proofs.lemmas.List.{append-nil}
use Rattle.std.proofs.Math.Seq.{take-append_seam}
use Rattle.std.specs.Result.{result_unwrap_or}
use Rattle.dt_definitions.specs.Program.{Program}
use Rattle.dt_definitions.specs.Step.{step_batch, after, Refused as Refusal}
use Rattle.dt_definitions.specs.BatchLaws.{HistoriesGoOnByOne}
use Rattle.dt_tables.specs.Listed.{has_more_cells, has_more_rows}
use Rattle.dt_run.specs.Versions.{Batch, accepted, AreNumberedFrom}
use Rattle.dt_run.specs.Edits.{line_by, edit_line, version_after, AreEditsFrom}
use Rattle.dt_run.specs.Performing.{stepped_by, after_batch, edit_lines, after_batches}
use Rattle.dt_run.specs.declared.log.EditLine.{EditLine}
use Rattle.dt_run.specs.declared.log.EditLine.TheVariants.{Accepted, Refused, VersionsFull, CellsFull, RowsFull, NoPages}
use Rattle.dt_run.specs.declared.perform.snapshot.Snapshot.{Snapshot}

abbrev pub History : Type 0
History = List Batch

-- this version stands after this history
pub record StandsOn (history : History) (here : Snapshot) : Type 0 where
  pub counted : here.version ≡ length history
  pub program : here.program ≡ after history

-- the first batch, and the others
accepted_cons : (batch : Batch) (batches : List Batch) (line : EditLine) (lines : List EditLine)
    → accepted (batch ∷ batches) (line ∷ lines) ≡ accepted (batch ∷ []) (line ∷ []) ++ accepted batches lines
accepted_cons batch batches (Accepted version) lines = refl
accepted_cons batch batches (Refused at why) lines = refl
accepted_cons batch batches VersionsFull lines = refl
accepted_cons batch batches CellsFull lines = refl
accepted_cons batch batches RowsFull lines = refl
accepted_cons batch batches (NoPages need free) lines = refl

-- where the history is the first part of a whole one, the version's program is the one after that many batches
pub program_at : (whole h more : History) (here : Snapshot) → StandsOn h here → whole ≡ h ++ more
    → here.program ≡ after (take here.version whole)
program_at whole h more here stands split =
    let part : take here.version whole ≡ h =
    ap (λ (n : ℕ). take n whole) stands.counted ∙ ap (take (length h)) split ∙ take-append_seam h more in
    stands.program ∙ sym (ap after part)

module _ (goes_on : HistoriesGoOnByOne) (limit : ℕ) where
  -- a batch that steps so
  stands_by : (h : History) (here : Snapshot) (batch : Batch) → StandsOn h here → (r : Result Program Refusal)
      → step_batch here.program batch ≡ r
      → StandsOn (h ++ accepted (batch ∷ []) (line_by here.version r ∷ [])) (stepped_by here r)
  stands_by h here batch stands (Ok q) stepped = within (has_more_cells q) (has_more_rows q)
    where
      within : (cells rows : Bool) → StandsOn
          (h ++ accepted (batch ∷ []) ((if cells then CellsFull else if rows then RowsFull else Accepted (here.version + 1)) ∷ []))
          (if cells then here else if rows then here else record { version = here.version + 1; program = q })
      within true rows = subst (λ (g : History). StandsOn g here) (sym (append-nil h)) stands
      within false true = subst (λ (g : History). StandsOn g here) (sym (append-nil h)) stands
      within false false =
          let old : step_batch (after h) batch ≡ Ok q = subst (λ (p : Program). step_batch p batch ≡ Ok q) stands.program stepped in
          record {
            counted = omega (arith, stands.counted, length-append h (batch ∷ []));
            program = sym (goes_on h batch ∙ ap (λ r. result_unwrap_or r (after h)) old);
          }
  stands_by h here batch stands (Err refused) stepped =
      subst (λ (g : History). StandsOn g here) (sym (append-nil h)) stands

  -- a batch
  stands_more : (h : History) (here : Snapshot) (batch : Batch) → StandsOn h here
      → StandsOn (h ++ accepted (batch ∷ []) (edit_line limit here.version here.program batch ∷ [])) (after_batch limit here batch)
  stands_more h here batch stands = go (here.version == limit)
    where
      go : (full : Bool) → StandsOn
          (h ++ accepted (batch ∷ []) ((if full then VersionsFull else line_by here.version (step_batch here.program batch)) ∷ []))
          (if full then here else stepped_by here (step_batch here.program batch))
      go true = subst (λ (g : History). StandsOn g here) (sym (append-nil h)) stands
      go false = stands_by h here batch stands (step_batch here.program batch) refl

  -- all batches of a phase
  pub stands_after : (batches : List Batch) (h : History) (here : Snapshot) → StandsOn h here
      → StandsOn (h ++ accepted batches (edit_lines limit here batches)) (after_batches limit here batches)
  stands_after [] h here stands = subst (λ (g : History). StandsOn g here) (sym (append-nil h)) stands
  stands_after (batch ∷ batches) h here stands =
      let line : EditLine = edit_line limit here.version here.program batch in
      let next : Snapshot = after_batch limit here batch in
      let rest = stands_after batches (h ++ accepted (batch ∷ []) (line ∷ [])) next (stands_more h here batch stands) in
      subst (λ (g : History). StandsOn g (after_batches limit next batches))
      (append_assoc h _ _ ∙ ap (λ g. h ++ g) (sym (accepted_cons batch batches line (edit_lines limit next batches)))) rest

  -- accepted batches are numbered
  numbered_by : (here : Snapshot) (batch : Batch) (batches : List Batch)
      → ((s : Snapshot) → AreNumberedFrom s.version (edit_lines limit s batches))
      → (full : Bool) (r : Result Program Refusal)
      → AreNumberedFrom here.version ((if full then VersionsFull else line_by here.version r)
      ∷ edit_lines limit (if full then here else stepped_by here r) batches)
  numbered_by here batch batches rest true r = rest here
  numbered_by here batch batches rest false (Ok q) = within (has_more_cells q) (has_more_rows q)
    where
      within : (cells rows : Bool) → AreNumberedFrom here.version
          ((if cells then CellsFull else if rows then RowsFull else Accepted (here.version + 1))
          ∷ edit_lines limit (if cells then here else if rows then here else record { version = here.version + 1; program = q }) batches)
      within true rows = rest here
      within false true = rest here
      within false false = (refl, rest (record { version = here.version + 1; program = q }))
  numbered_by here batch batches rest false (Err refused) = rest here

  pub numbered : (batches : List Batch) (here : Snapshot) → AreNumberedFrom here.version (edit_lines limit here batches)
  numbered [] here = tt
  numbered (batch ∷ batches) here =
      numbered_by here batch batches (numbered batches) (here.version == limit) (step_batch here.program batch)

  -- there are as many lines as batches
  pub as_many : (batches : List Batch) (here : Snapshot) → length (edit_lines limit here batches) ≡ length batches
  as_many [] here = refl
  as_many (batch ∷ batches) here = ap (λ n. suc n) (as_many batches (after_batch limit here batch))

  -- the version after a batch is that after its line
  version_of_line : (here : Snapshot) (full : Bool) (r : Result Program Refusal)
      → (if full then here else stepped_by here r).version
      ≡ version_after here.version (if full then VersionsFull else line_by here.version r)
  version_of_line here true r = refl
  version_of_line here false (Ok q) = within (has_more_cells q) (has_more_rows q)
    where
      within : (cells rows : Bool)
          → (if cells then here else if rows then here else record { version = here.version + 1; program = q }).version
          ≡ version_after here.version (if cells then CellsFull else if rows then RowsFull else Accepted (here.version + 1))
      within true rows = refl
      within false true = refl
      within false false = refl
  version_of_line here false (Err refused) = refl

  -- each line is that of its batch after the batches accepted before it
  pub edits_are : (whole more : History) (batches : List Batch) (h : History) (here : Snapshot) → StandsOn h here
      → whole ≡ (h ++ accepted batches (edit_lines limit here batches)) ++ more
      → AreEditsFrom limit whole here.version batches (edit_lines limit here batches)
  edits_are whole more [] h here stands split = tt
  edits_are whole more (batch ∷ batches) h here stands split =
      let line : EditLine = edit_line limit here.version here.program batch in
      let next : Snapshot = after_batch limit here batch in
      let lines : List EditLine = edit_lines limit next batches in
      let longer : History = h ++ accepted (batch ∷ []) (line ∷ []) in
      let all : h ++ accepted (batch ∷ batches) (line ∷ lines) ≡ longer ++ accepted batches lines =
      ap (λ g. h ++ g) (accepted_cons batch batches line lines) ∙ sym (append_assoc h _ _) in
      let here_is : here.program ≡ after (take here.version whole) =
      program_at whole h _ here stands (split ∙ append_assoc h _ more) in (
        ap (λ p. edit_line limit here.version p batch) here_is,
        subst (λ (v : ℕ). AreEditsFrom limit whole v batches lines)
            (version_of_line here (here.version == limit) (step_batch here.program batch))
            (edits_are whole more batches longer next (stands_more h here batch stands) (split ∙ ap (λ g. g ++ more) all)),
      )
