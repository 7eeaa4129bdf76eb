-- Where a line of a script may stand: what is asked of the lines before it, which are given latest first.
use Rattle.std.specs.Prelude.{◌≡◌, ◌==◌, ◌≤◌, ℕ, Bool, true, false, ◌&&◌, not, nat_le, if◌then◌else◌, is_none, is_some, List, [], ◌∷◌, Option, None, Some}
use Rattle.dt_script.specs.CallerSet.{has_caller}
use Rattle.dt_script.specs.declared.limits.TheConstants.{CALLERS}
use Rattle.dt_script.specs.declared.line.Line.{Line}
use Rattle.dt_script.specs.declared.line.Line.TheVariants.{Header, Begin, Commit, Phase, Caller, Call, Pin, Unpin, End}
use Rattle.dt_script.specs.declared.place.Places.{Places}

-- whether a batch is open: the latest `begin` has no `commit` after it
abbrev pub is_in_batch : List Line → Bool
is_in_batch [] = false
is_in_batch (Begin ∷ past) = true
is_in_batch (Commit ∷ past) = false
is_in_batch (_ ∷ past) = is_in_batch past

-- the caller whose lines follow: the latest of this phase, if it has one
abbrev pub caller_after : List Line → Option ℕ
caller_after [] = None
caller_after (Phase ∷ past) = None
caller_after (Caller caller ∷ past) = Some caller
caller_after (_ ∷ past) = caller_after past

-- whether this phase has a line of this caller
abbrev pub has_stood : ℕ → List Line → Bool
has_stood caller [] = false
has_stood caller (Phase ∷ past) = false
has_stood caller (Caller other ∷ past) = if other == caller then true else has_stood caller past
has_stood caller (_ ∷ past) = has_stood caller past

-- whether it is this caller
abbrev pub is_caller : ℕ → Option ℕ → Bool
is_caller caller None = false
is_caller caller (Some other) = other == caller

-- whether the last `pin` or `unpin` of this caller, in any phase, is `pin`
abbrev pub is_pinned : ℕ → List Line → Bool
is_pinned caller [] = false
is_pinned caller (Pin ∷ past) = if is_caller caller (caller_after past) then true else is_pinned caller past
is_pinned caller (Unpin ∷ past) = if is_caller caller (caller_after past) then false else is_pinned caller past
is_pinned caller (_ ∷ past) = is_pinned caller past

-- whether a caller's lines follow, and that caller has no pin, or has one
abbrev pub may_pin : List Line → Option ℕ → Bool
may_pin past None = false
may_pin past (Some caller) = not (is_pinned caller past)

abbrev pub may_unpin : List Line → Option ℕ → Bool
may_unpin past None = false
may_unpin past (Some caller) = is_pinned caller past

-- whether the script has ended
abbrev pub has_ended : List Line → Bool
has_ended (End ∷ past) = true
has_ended _ = false

-- whether no line stands before this one
abbrev pub is_first : List Line → Bool
is_first [] = true
is_first (line ∷ past) = false

-- the rule of each kind of line; a line without one of its own is an edit, and stands before the callers of its phase
abbrev pub may_follow : ℕ → List Line → Line → Bool
may_follow readers past Header = is_first past
may_follow readers past Begin = is_none (caller_after past) && not (is_in_batch past)
may_follow readers past Commit = is_in_batch past
may_follow readers past Phase = not (is_in_batch past)
may_follow readers past (Caller caller) =
    not (is_in_batch past) && (nat_le caller readers && not (has_stood caller past))
may_follow readers past (Call query) = is_some (caller_after past)
may_follow readers past Pin = may_pin past (caller_after past)
may_follow readers past Unpin = may_unpin past (caller_after past)
may_follow readers past End = not (is_in_batch past)
may_follow readers past _ = is_none (caller_after past)

-- whether a line may stand after these lines, in a script for so many readers
abbrev pub may_stand : ℕ → List Line → Line → Bool
may_stand readers past line = not (has_ended past) && may_follow readers past line

-- What is kept of the lines `past` says of them all that the rules ask, for callers up to the greatest.
pub record StandsAfter (places : Places) (past : List Line) : Type 0 where
  pub first : places.is_first ≡ is_first past
  pub batch : places.in_batch ≡ is_in_batch past
  pub current : places.callers.current ≡ caller_after past
  pub stood : (caller : ℕ) → caller ≤ CALLERS → has_caller places.callers.stood caller ≡ has_stood caller past
  pub pinned : (caller : ℕ) → caller ≤ CALLERS → has_caller places.callers.pinned caller ≡ is_pinned caller past
  pub ended : places.ended ≡ has_ended past
