-- That what performing a script logs is an outcome of it.
use Rattle.std.proofs.Common.{◌≡◌, ℕ, ◌+◌, ◌≤◌, ◌<◌, List, [], ◌∷◌, ◌++◌, length, replicate, get_or, zero, suc, Option, None, refl, sym, ap, ◌∙◌, subst, arith, append_assoc, length-append}
use Rattle.std.proofs.lemmas.List.{length-set, length-replicate}
use Rattle.std.specs.List.{All, AllZip, AllByRecursion}
use Rattle.dt_definitions.specs.BatchLaws.{HistoriesGoOnByOne}
use Rattle.dt_script.specs.Script.{Part, Phase, Script}
use Rattle.dt_script.specs.declared.line.CallerLine.{CallerLine}
use Rattle.dt_script.specs.declared.line.CallerLine.TheVariants.{Call, Pin, Unpin}
use Rattle.dt_run.specs.Log.{Log, PhaseLog}
use Rattle.dt_run.specs.LogShape.{IsLogOfLine, IsLogOfPart, HasShape}
use Rattle.dt_run.specs.Versions.{accepted, history_of, HasVersionsFrom}
use Rattle.dt_run.specs.Edits.{HasEdits}
use Rattle.dt_run.specs.CallerLines.{entries_of, callers_of}
use Rattle.dt_run.specs.Calls.{Follows}
use Rattle.dt_run.specs.Outcome.{Outcome}
use Rattle.dt_script.specs.Playable.{lines_through, Playable}
use Rattle.dt_run.specs.Performing.{Pins, pin_of, call_lines, pin_by, part_logs, with_part, with_parts, edit_lines, Standing, edited, phase_logs, after_phase, after_phases, first_version, at_first}
use Rattle.dt_run.specs.declared.perform.snapshot.Snapshot.{Snapshot}
use Rattle.dt_run.proofs.HistoryGrows.{History, StandsOn, program_at, stands_after, numbered, as_many, edits_are}
use Rattle.dt_run.proofs.CallersFollow.{version_of, kept_on, MayGoOn, parts_follow}

-- each line has its entry, and each caller
lines_have_shape : (here : Snapshot) (pin : Option Snapshot) (lines : List CallerLine) → AllZip IsLogOfLine lines (call_lines here pin lines)
lines_have_shape here pin [] = tt
lines_have_shape here pin (Call query ∷ lines) = (tt, lines_have_shape here pin lines)
lines_have_shape here pin (Pin ∷ lines) = (tt, lines_have_shape here (pin_by here pin Pin) lines)
lines_have_shape here pin (Unpin ∷ lines) = (tt, lines_have_shape here None lines)

parts_have_shape : (here : Snapshot) (pins : Pins) (parts : List Part) → AllZip IsLogOfPart parts (part_logs here pins parts)
parts_have_shape here pins [] = tt
parts_have_shape here pins (part ∷ parts) =
    ((refl, lines_have_shape here (pin_of pins part.caller) part.lines), parts_have_shape here (with_part here pins part) parts)

-- each caller's number has a place
abbrev pub Fit : Pins → List Phase → Type 0
Fit pins phases = All (λ phase. All (λ part. part.caller < length pins) phase.callers) phases

-- the numbers have their places after a phase too
with_parts_length : (here : Snapshot) (pins : Pins) (parts : List Part) → length (with_parts here pins parts) ≡ length pins
with_parts_length here pins [] = refl
with_parts_length here pins (part ∷ parts) =
    with_parts_length here (with_part here pins part) parts ∙ length-set pins part.caller _

still_fit : (here : Snapshot) (standing : Standing) (phase : Phase) (phases : List Phase) → Fit standing.pins (phase ∷ phases)
    → Fit (with_parts here standing.pins phase.callers) phases
still_fit here standing phase phases fit = λ k d inside. λ j e within.
    let one : (get_or (get_or phases k d).callers j e).caller < length standing.pins = fit (suc k) d (omega arith) j e within in
    omega (arith, one, with_parts_length here standing.pins phase.callers)

module _ (goes_on : HistoriesGoOnByOne) (limit : ℕ) where
  phases_have_shape : (phases : List Phase) (standing : Standing) → HasShape phases (phase_logs limit standing phases)
  phases_have_shape [] standing = tt
  phases_have_shape (phase ∷ phases) standing = (
    (as_many goes_on limit phase.edits standing.current, parts_have_shape (edited limit standing phase) standing.pins phase.callers),
    phases_have_shape phases (after_phase limit standing phase),
  )

  -- the history after a phase
  abbrev longer : History → Standing → Phase → History
  longer h standing phase = h ++ accepted phase.edits (edit_lines limit standing.current phase.edits)

  stands_on : (h : History) (standing : Standing) (phase : Phase) → StandsOn h standing.current
      → StandsOn (longer h standing phase) (edited limit standing phase)
  stands_on h standing phase stands = stands_after goes_on limit phase.edits h standing.current stands

  -- its version is later by as many batches as were accepted
  later_by : (h : History) (standing : Standing) (phase : Phase) → StandsOn h standing.current
      → (edited limit standing phase).version
      ≡ standing.current.version + length (accepted phase.edits (edit_lines limit standing.current phase.edits))
  later_by h standing phase stands =
      let next = stands_on h standing phase stands in
      omega (arith, stands.counted, next.counted, length-append h (accepted phase.edits (edit_lines limit standing.current phase.edits)))

  versions_are : (phases : List Phase) (standing : Standing) (h : History) → StandsOn h standing.current
      → HasVersionsFrom standing.current.version phases (phase_logs limit standing phases) (after_phases limit standing phases).current.version
  versions_are [] standing h stands = refl
  versions_are (phase ∷ phases) standing h stands = (
    refl,
    numbered goes_on limit phase.edits standing.current,
    later_by h standing phase stands,
    versions_are phases (after_phase limit standing phase) (longer h standing phase) (stands_on h standing phase stands),
  )

  module _ (whole : History) where
    phases_have_edits : (phases : List Phase) (standing : Standing) (h : History) → StandsOn h standing.current
        → whole ≡ h ++ history_of phases (phase_logs limit standing phases)
        → HasEdits limit whole phases (phase_logs limit standing phases)
    phases_have_edits [] standing h stands split = tt
    phases_have_edits (phase ∷ phases) standing h stands split =
        let on : whole ≡ longer h standing phase ++ history_of phases (phase_logs limit (after_phase limit standing phase) phases) =
        split ∙ sym (append_assoc h _ _) in (
          edits_are goes_on limit whole _ phase.edits h standing.current stands on,
          phases_have_edits phases (after_phase limit standing phase) (longer h standing phase) (stands_on h standing phase stands) on,
        )

    phases_follow : (caller : ℕ) (phases : List Phase) (standing : Standing) (h : History) (least : ℕ)
        → StandsOn h standing.current
        → whole ≡ h ++ history_of phases (phase_logs limit standing phases)
        → Fit standing.pins phases
        → MayGoOn whole standing.current least (pin_of standing.pins caller) (lines_through caller phases)
        → Follows whole (version_of (pin_of standing.pins caller)) least (entries_of caller phases (phase_logs limit standing phases))
    phases_follow caller [] standing h least stands split fit may = tt
    phases_follow caller (phase ∷ phases) standing h least stands split fit may =
        let next : Snapshot = edited limit standing phase in
        let logs : List PhaseLog = phase_logs limit (after_phase limit standing phase) phases in
        let next_stands : StandsOn (longer h standing phase) next = stands_on h standing phase stands in
        let on : whole ≡ longer h standing phase ++ history_of phases logs = split ∙ sym (append_assoc h _ _) in
        let no_earlier : standing.current.version ≤ next.version = omega (arith, later_by h standing phase stands) in
        parts_follow whole next (program_at whole (longer h standing phase) (history_of phases logs) next next_stands on)
        standing.current.version caller phase.callers standing.pins least (lines_through caller phases) (entries_of caller phases logs)
        (fit 0 phase (omega arith))
        (record {
          seen = omega (arith, may.seen, no_earlier);
          kept = kept_on whole standing.current.version next.version (pin_of standing.pins caller) no_earlier may.kept;
          turns = may.turns;
        })
        (λ seen go_on. phases_follow caller phases (after_phase limit standing phase) (longer h standing phase) seen next_stands on
        (still_fit next standing phase phases fit) go_on)

-- what holds of all numbers holds of these
each_of : (P : ℕ → Type 0) → ((n : ℕ) → P n) → (numbers : List ℕ) → AllByRecursion P numbers
each_of P all [] = tt
each_of P all (number ∷ numbers) = (all number, each_of P all numbers)

-- where no caller keeps a version, this one doesn't
none_kept : (n caller : ℕ) → pin_of (replicate n None) caller ≡ None
none_kept zero caller = refl
none_kept (suc n) zero = refl
none_kept (suc n) (suc caller) = none_kept n caller

all_fit : (readers : ℕ) (script : Script) → Playable readers script → Fit (replicate (readers + 1) None) script.phases
all_fit readers script playable = λ k d inside. λ j e within.
    let one : (get_or (get_or script.phases k d).callers j e).caller ≤ readers = (playable.callers k d inside j e within).1 in
    omega (arith, one, length-replicate {A = Option Snapshot} (readers + 1) None)

-- what is logged is an outcome of the script
pub performed_is_outcome : HistoriesGoOnByOne → (limit readers : ℕ) (script : Script) → Playable readers script
    → Outcome script limit (record {
      phases = phase_logs limit (at_first readers) script.phases;
      last = (after_phases limit (at_first readers) script.phases).current.version;
    })
performed_is_outcome goes_on limit readers script playable =
    let first : Standing = at_first readers in
    let whole : History = history_of script.phases (phase_logs limit first script.phases) in
    let empty : StandsOn [] first_version = record { counted = refl; program = refl } in
    record {
      shape = phases_have_shape goes_on limit script.phases first;
      versions = versions_are goes_on limit script.phases first [] empty;
      edits = phases_have_edits goes_on limit whole script.phases first [] empty refl;
      calls = each_of (λ caller. Follows whole None 0 (entries_of caller script.phases (phase_logs limit first script.phases)))
          (λ caller. subst (λ (pin : Option Snapshot). MayGoOn whole first_version 0 pin (lines_through caller script.phases)
          → Follows whole (version_of pin) 0 (entries_of caller script.phases (phase_logs limit first script.phases)))
          (none_kept (readers + 1) caller)
          (phases_follow goes_on limit whole caller script.phases first [] 0 empty refl (all_fit readers script playable))
          (record { seen = omega arith; kept = tt; turns = playable.pins caller }))
          (callers_of script.phases);
    }

-- the parts that the code makes are those of that log
pub logged_is_outcome : HistoriesGoOnByOne → (limit readers : ℕ) (script : Script) → Playable readers script
    → (phases : List Phase) (logs : List PhaseLog) (last : ℕ) → phases ≡ script.phases
    → logs ≡ phase_logs limit (at_first readers) phases → last ≡ (after_phases limit (at_first readers) phases).current.version
    → Outcome script limit (record { phases = logs; last = last })
logged_is_outcome goes_on limit readers script playable phases logs last phases_are logs_are last_is =
    let log : List Phase → Log = λ p. record {
      phases = phase_logs limit (at_first readers) p;
      last = (after_phases limit (at_first readers) p).current.version;
    } in
    let same : record { phases = logs; last = last } ≡ log script.phases =
    ap (λ l. record { phases = l; last = last }) logs_are
    ∙ ap (λ n. record { phases = phase_logs limit (at_first readers) phases; last = n }) last_is ∙ ap log phases_are in
    subst (λ (l : Log). Outcome script limit l) (sym same) (performed_is_outcome goes_on limit readers script playable)
