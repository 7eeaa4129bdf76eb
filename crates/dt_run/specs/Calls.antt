-- The calls of a log: each is answered at a version that its caller may see.
use Rattle.std.specs.Prelude.{◌≡◌, ℕ, ◌≤◌, List, [], ◌∷◌, take, Option, None, Some}
use Rattle.std.specs.List.{AllByRecursion}
use Rattle.dt_definitions.specs.Step.{after}
use Rattle.dt_scratch.specs.Resolve.{reply}
use Rattle.dt_script.specs.Script.{Phase}
use Rattle.dt_script.specs.declared.line.CallerLine.{CallerLine}
use Rattle.dt_script.specs.declared.line.CallerLine.TheVariants.{Call, Pin, Unpin}
use Rattle.dt_run.specs.Log.{PhaseLog}
use Rattle.dt_run.specs.Versions.{Batch}
use Rattle.dt_run.specs.CallerLines.{CallerEntry, callers_of, entries_of}
use Rattle.dt_run.specs.declared.log.CallLine.{CallLine}
use Rattle.dt_run.specs.declared.log.CallLine.TheVariants.{Called, PinnedAt, Unpinned}

-- the versions that a line may see where no pin is in force: callers come after the edits of their phase
abbrev pub MayAnswer : CallerEntry → ℕ → Type 0
MayAnswer entry version = version ≡ entry.to

-- An entry under a pin, if one is in force, whose caller has seen the version `least`. Without a pin a call and a pin
-- see a version that they may, no older than `least`; a call under a pin sees the pinned version; a call is answered by
-- look-up from scratch after that many batches. No other line may stand in a log: neither `CallWorn` nor `PinWorn`.
abbrev pub Answers : List Batch → Option ℕ → ℕ → CallerEntry → CallerLine → CallLine → Type 0
Answers history None least entry (Call query) (Called stamped) =
    MayAnswer entry stamped.version × (least ≤ stamped.version)
    × (stamped.reply ≡ reply (after (take stamped.version history)) query)
Answers history (Some pinned) least entry (Call query) (Called stamped) =
    (stamped.version ≡ pinned) × (stamped.reply ≡ reply (after (take pinned history)) query)
Answers history None least entry Pin (PinnedAt version) = MayAnswer entry version × (least ≤ version)
Answers history pin least entry Unpin Unpinned = Unit {0}
Answers history pin least entry _ _ = ⊥

-- the pin in force after a line that was logged so
abbrev pub pin_after : Option ℕ → CallLine → Option ℕ
pin_after pin (PinnedAt version) = Some version
pin_after pin Unpinned = None
pin_after pin _ = pin

-- the greatest version that its caller has seen after such a line
abbrev pub least_after : ℕ → CallLine → ℕ
least_after least (Called stamped) = stamped.version
least_after least (PinnedAt version) = version
least_after least _ = least

-- the entries of a caller, each as the entries before it allow
abbrev pub Follows : List Batch → Option ℕ → ℕ → List CallerEntry → Type 0
Follows history pin least [] = Unit {0}
Follows history pin least (entry ∷ entries) =
    Answers history pin least entry entry.line entry.logged
    × Follows history (pin_after pin entry.logged) (least_after least entry.logged) entries

-- Calls: the entries of every caller follow one another, at first without a pin and with no version seen.
abbrev pub HasCalls : List Batch → List Phase → List PhaseLog → Type 0
HasCalls history phases logs =
    AllByRecursion (λ caller. Follows history None 0 (entries_of caller phases logs)) (callers_of phases)
