-- That the lines of a caller follow one another, through the callers of a phase.
use Rattle.std.proofs.Common.{◌≡◌, ◌≢◌, ◌==◌, ℕ, ◌≤◌, ◌<◌, Bool, true, false, if◌then◌else◌, List, [], ◌∷◌, ◌++◌, length, take, suc, Option, None, Some, is_some, refl, sym, ap, ◌∙◌, subst, arith, append_assoc, ◌⊎◌, inl, inr, get_or}
use Rattle.std.proofs.lemmas.List.{get_or-set_same, get_or-set_other, length-set}
use Rattle.std.proofs.lemmas.Bool.Decides.{eqb_tells}
use Rattle.std.specs.List.{All}
use Rattle.dt_definitions.specs.Step.{after}
use Rattle.dt_scratch.specs.Resolve.{reply}
use Rattle.dt_script.specs.Script.{Part}
use Rattle.dt_script.specs.declared.line.CallerLine.{CallerLine}
use Rattle.dt_script.specs.declared.line.CallerLine.TheVariants.{Call, Pin, Unpin}
use Rattle.dt_run.specs.CallerLines.{CallerEntry, line_entries, part_entries}
use Rattle.dt_run.specs.Calls.{Follows}
use Rattle.dt_script.specs.Playable.{lines_in, Alternate}
use Rattle.dt_run.specs.Performing.{Pins, pin_of, call_lines, pin_after_lines, with_part, with_parts, part_logs}
use Rattle.dt_run.specs.declared.perform.snapshot.Snapshot.{Snapshot}
use Rattle.dt_run.proofs.HistoryGrows.{History}

-- the version that is kept
abbrev pub version_of : Option Snapshot → Option ℕ
version_of None = None
version_of (Some kept) = Some kept.version

-- what is kept is a version of this history, and no later than this one
abbrev pub IsKept : History → ℕ → Option Snapshot → Type 0
IsKept whole latest None = Unit {0}
IsKept whole latest (Some kept) = (kept.program ≡ after (take kept.version whole)) × (kept.version ≤ latest)

-- no earlier version is the latest
pub kept_on : (whole : History) (latest later : ℕ) (pin : Option Snapshot) → latest ≤ later → IsKept whole latest pin → IsKept whole later pin
kept_on whole latest later None le kept = tt
kept_on whole latest later (Some pinned) le (is, before) = (is, omega arith)

-- the caller's lines so far allow what comes next
pub record MayGoOn (whole : History) (here : Snapshot) (least : ℕ) (pin : Option Snapshot) (lines : List CallerLine) : Type 0 where
  pub seen : least ≤ here.version
  pub kept : IsKept whole here.version pin
  pub turns : Alternate (is_some pin) lines

module _ (whole : History) (here : Snapshot) (here_is : here.program ≡ after (take here.version whole)) (from : ℕ) where
  -- the entries of some lines, and then more
  lines_follow : (lines : List CallerLine) (pin : Option Snapshot) (least : ℕ) (later : List CallerLine) (more : List CallerEntry)
      → MayGoOn whole here least pin (lines ++ later)
      → ((seen : ℕ) → MayGoOn whole here seen (pin_after_lines here pin lines) later
      → Follows whole (version_of (pin_after_lines here pin lines)) seen more)
      → Follows whole (version_of pin) least (line_entries from here.version lines (call_lines here pin lines) ++ more)
  lines_follow [] pin least later more may rest = rest least may
  lines_follow (Call query ∷ lines) None least later more may rest = (
    (refl, may.seen, ap (λ p. reply p query) here_is),
    lines_follow lines None here.version later more
        (record { seen = omega arith; kept = tt; turns = may.turns }) rest,
  )
  lines_follow (Call query ∷ lines) (Some pinned) least later more may rest = (
    (refl, ap (λ p. reply p query) may.kept.0),
    lines_follow lines (Some pinned) pinned.version later more
        (record { seen = may.kept.1; kept = may.kept; turns = may.turns }) rest,
  )
  lines_follow (Pin ∷ lines) None least later more may rest = (
    (refl, may.seen),
    lines_follow lines (Some here) here.version later more
        (record { seen = omega arith; kept = (here_is, omega arith); turns = may.turns.1 }) rest,
  )
  lines_follow (Pin ∷ lines) (Some pinned) least later more may rest = let wrong : true ≡ false = may.turns.0 in absurd (cc)
  lines_follow (Unpin ∷ lines) None least later more may rest = let wrong : false ≡ true = may.turns.0 in absurd (cc)
  lines_follow (Unpin ∷ lines) (Some pinned) least later more may rest = (
    tt,
    lines_follow lines None least later more
        (record { seen = may.seen; kept = tt; turns = may.turns.1 }) rest,
  )

  -- the entries of a caller among those of some callers, and then more
  abbrev PartsFollow : ℕ → List Part → Pins → Type 0
  PartsFollow caller parts pins = (least : ℕ) (later : List CallerLine) (more : List CallerEntry)
      → All (λ part. part.caller < length pins) parts
      → MayGoOn whole here least (pin_of pins caller) (lines_in caller parts ++ later)
      → ((seen : ℕ) → MayGoOn whole here seen (pin_of (with_parts here pins parts) caller) later
      → Follows whole (version_of (pin_of (with_parts here pins parts) caller)) seen more)
      → Follows whole (version_of (pin_of pins caller)) least
      (part_entries caller from here.version parts (part_logs here pins parts) ++ more)

  -- the callers after this one are within the table too
  still_fit : (part : Part) (parts : List Part) (pins : Pins) → All (λ p. p.caller < length pins) (part ∷ parts)
      → All (λ p. p.caller < length (with_part here pins part)) parts
  still_fit part parts pins fits = λ k d inside.
      let one : (get_or parts k d).caller < length pins = fits (suc k) d (omega arith) in
      omega (arith, one, length-set pins part.caller (pin_after_lines here (pin_of pins part.caller) part.lines))

  -- what this caller keeps after its lines, and another still
  moved : (caller : ℕ) (part : Part) (pins : Pins) → part.caller < length pins → part.caller ≡ caller
      → pin_of (with_part here pins part) caller ≡ pin_after_lines here (pin_of pins caller) part.lines
  moved caller part pins inside same =
      ap (pin_of (with_part here pins part)) (sym same)
      ∙ get_or-set_same pins part.caller (pin_after_lines here (pin_of pins part.caller) part.lines) None inside
      ∙ ap (λ n. pin_after_lines here (pin_of pins n) part.lines) same

  stays : (caller : ℕ) (part : Part) (pins : Pins) → part.caller ≢ caller → pin_of (with_part here pins part) caller ≡ pin_of pins caller
  stays caller part pins other =
      get_or-set_other pins part.caller caller (pin_after_lines here (pin_of pins part.caller) part.lines) None (λ same. other (sym same))

  part_follows : (caller : ℕ) (part : Part) (parts : List Part) (pins : Pins) → PartsFollow caller parts (with_part here pins part)
      → PartsFollow caller (part ∷ parts) pins
  part_follows caller part parts pins others = λ least later more fits may rest.
      let E : List CallerEntry = part_entries caller from here.version parts (part_logs here (with_part here pins part) parts) in
      let after_it : (pin : Option Snapshot) → pin_of (with_part here pins part) caller ≡ pin → (seen : ℕ)
      → MayGoOn whole here seen pin (lines_in caller parts ++ later) → Follows whole (version_of pin) seen (E ++ more) =
      λ pin is seen.
      subst (λ (p : Option Snapshot). MayGoOn whole here seen p (lines_in caller parts ++ later) → Follows whole (version_of p) seen (E ++ more))
      is (λ on. others seen later more (still_fit part parts pins fits) on rest) in
      by_test least later more E (part.caller == caller) (eqb_tells part.caller caller) (fits 0 part (omega arith)) after_it may
    where
      by_test : (least : ℕ) (later : List CallerLine) (more E : List CallerEntry) (is : Bool)
          → (((is ≡ true) × (part.caller ≡ caller)) ⊎ ((is ≡ false) × (part.caller ≢ caller)))
          → part.caller < length pins
          → ((pin : Option Snapshot) → pin_of (with_part here pins part) caller ≡ pin → (seen : ℕ)
          → MayGoOn whole here seen pin (lines_in caller parts ++ later) → Follows whole (version_of pin) seen (E ++ more))
          → MayGoOn whole here least (pin_of pins caller) (((if is then part.lines else []) ++ lines_in caller parts) ++ later)
          → Follows whole (version_of (pin_of pins caller)) least
          (((if is then line_entries from here.version part.lines (call_lines here (pin_of pins part.caller) part.lines) else []) ++ E) ++ more)
      by_test least later more E true (inl (e, same)) inside after_it may =
          subst (λ (pin : Option Snapshot). Follows whole (version_of (pin_of pins caller)) least
          ((line_entries from here.version part.lines (call_lines here pin part.lines) ++ E) ++ more)) (ap (pin_of pins) (sym same))
          (subst (λ (entries : List CallerEntry). Follows whole (version_of (pin_of pins caller)) least entries)
          (sym (append_assoc (line_entries from here.version part.lines (call_lines here (pin_of pins caller) part.lines)) E more))
          (lines_follow part.lines (pin_of pins caller) least (lines_in caller parts ++ later) (E ++ more)
          (subst (λ (lines : List CallerLine). MayGoOn whole here least (pin_of pins caller) lines)
          (append_assoc part.lines (lines_in caller parts) later) may)
          (after_it (pin_after_lines here (pin_of pins caller) part.lines) (moved caller part pins inside same))))
      by_test least later more E true (inr (e, other)) inside after_it may = let wrong : true ≡ false = e in absurd (cc)
      by_test least later more E false (inl (e, same)) inside after_it may = let wrong : false ≡ true = e in absurd (cc)
      by_test least later more E false (inr (e, other)) inside after_it may =
          after_it (pin_of pins caller) (stays caller part pins other) least may

  pub parts_follow : (caller : ℕ) (parts : List Part) (pins : Pins) → PartsFollow caller parts pins
  parts_follow caller [] pins = λ least later more fits may rest. rest least may
  parts_follow caller (part ∷ parts) pins = part_follows caller part parts pins (parts_follow caller parts (with_part here pins part))
