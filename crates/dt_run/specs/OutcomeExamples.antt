-- Small worked examples of logs that are outcomes of a script, and of logs that are none.
use Rattle.std.specs.Prelude.{◌≡◌, ℕ, ◌^◌, List, [], ◌∷◌, refl}
use Rattle.std.proofs.Common.{lit≤}
use Rattle.dt_definitions.specs.Program.{Program}
use Rattle.dt_definitions.specs.declared.edit.Edit.TheVariants.{AddClass, AddSelector, Define}
use Rattle.dt_definitions.specs.declared.why.Why.TheVariants.{ClassExists}
use Rattle.dt_scratch.specs.declared.reply.Answer.TheVariants.{Method}
use Rattle.dt_scratch.specs.declared.reply.Reply.{Reply}
use Rattle.dt_scratch.specs.declared.reply.Reply.TheVariants.{NoClass, Answered}
use Rattle.dt_script.specs.NameBook.{NameBook}
use Rattle.dt_script.specs.Script.{Part, Phase}
use Rattle.dt_script.specs.declared.line.CallerLine.{CallerLine}
use Rattle.dt_script.specs.declared.line.CallerLine.TheVariants.{Call, Pin, Unpin}
use Rattle.dt_run.specs.Log.{PartLog, PhaseLog}
use Rattle.dt_run.specs.Versions.{Batch, history_of}
use Rattle.dt_run.specs.Edits.{edit_line}
use Rattle.dt_run.specs.CallerLines.{callers_of}
use Rattle.dt_run.specs.Outcome.{Outcome}
use Rattle.dt_run.specs.declared.log.CallLine.{CallLine}
use Rattle.dt_run.specs.declared.log.CallLine.TheVariants.{Called, PinnedAt, Unpinned}
use Rattle.dt_run.specs.declared.log.EditLine.{EditLine}
use Rattle.dt_run.specs.declared.log.EditLine.TheVariants.{Accepted, Refused, VersionsFull}

-- a phase of batches alone, and what is logged of it
abbrev pub edits_alone : List Batch → Phase
edits_alone batches = record { edits = batches; callers = [] }

abbrev pub edits_logged : ℕ → ℕ → List EditLine → PhaseLog
edits_logged from to lines = record { from = from; to = to; edits = lines; callers = [] }

-- a phase with one batch and one caller, and what is logged of it
abbrev pub one_caller : List Batch → List CallerLine → Phase
one_caller batches lines = record { edits = batches; callers = record { caller = 1; lines = lines } ∷ [] }

abbrev pub caller_logged : ℕ → ℕ → List EditLine → List CallLine → PhaseLog
caller_logged from to lines calls =
    record { from = from; to = to; edits = lines; callers = record { caller = 1; lines = calls } ∷ [] }

-- selector 0 is sent to class 0, and answered at this version
abbrev pub call : CallerLine
call = Call (record { selector = 0; classes = 0 ∷ [] })

abbrev pub called : ℕ → Reply → CallLine
called version reply = Called (record { version = version; reply = reply })

-- ---- a batch of three edits, of which the second is refused, makes no version, and changes nothing

abbrev pub refused_batch : List Phase
refused_batch =
    edits_alone ((AddSelector 0 1 ∷ []) ∷ (AddClass 0 [] ∷ AddClass 0 [] ∷ AddClass 1 [] ∷ []) ∷ [])
    ∷ one_caller [] (call ∷ []) ∷ []

abbrev pub refused_log : List PhaseLog
refused_log =
    edits_logged 0 1 (Accepted 1 ∷ Refused 2 ClassExists ∷ []) ∷ caller_logged 1 1 [] (called 1 (NoClass 1) ∷ []) ∷ []

pub refused_is_outcome : (names : NameBook) → Outcome (record { names = names; phases = refused_batch }) 100
    (record { phases = refused_log; last = 1 })
refused_is_outcome names = record {
  shape = ((refl, tt), ((refl, ((refl, (tt, tt)), tt)), tt));
  versions = (refl, (refl, tt), refl, (refl, tt, refl, refl));
  edits = ((refl, (refl, tt)), (tt, tt));
  calls = (((refl, lit≤ tt, refl), tt), tt);
}

-- ---- a pin answers at its version, also after an edit of a later phase, until the unpin

abbrev pub pinned : List Phase
pinned =
    one_caller ((AddClass 0 [] ∷ AddSelector 0 1 ∷ Define 0 (0 ∷ []) 0 ∷ []) ∷ []) (Pin ∷ call ∷ [])
    ∷ one_caller ((Define 0 (0 ∷ []) 1 ∷ []) ∷ []) (call ∷ Unpin ∷ call ∷ []) ∷ []

abbrev pub pinned_log : CallLine → CallLine → List PhaseLog
pinned_log under_pin without_pin =
    caller_logged 0 1 (Accepted 1 ∷ []) (PinnedAt 1 ∷ called 1 (Answered (Method 0)) ∷ [])
    ∷ caller_logged 1 2 (Accepted 2 ∷ []) (under_pin ∷ Unpinned ∷ without_pin ∷ []) ∷ []

abbrev pub IsPinnedOutcome : CallLine → CallLine → Type 0
IsPinnedOutcome under_pin without_pin = (names : NameBook) → Outcome (record { names = names; phases = pinned }) 100
    (record { phases = pinned_log under_pin without_pin; last = 2 })

pub pinned_is_outcome : IsPinnedOutcome (called 1 (Answered (Method 0))) (called 2 (Answered (Method 1)))
pinned_is_outcome names = record {
  shape = ((refl, ((refl, (tt, (tt, tt))), tt)), ((refl, ((refl, (tt, (tt, (tt, tt)))), tt)), tt));
  versions = (refl, (refl, tt), refl, (refl, (refl, tt), refl, refl));
  edits = ((refl, tt), ((refl, tt), tt));
  calls = (((refl, lit≤ tt), ((refl, refl), ((refl, refl), (tt, ((refl, lit≤ tt, refl), tt))))), tt);
}

-- a call under a pin is at no later version, and one without at no earlier
no_later_version : NameBook → IsPinnedOutcome (called 2 (Answered (Method 1))) (called 2 (Answered (Method 1))) → ⊥
no_later_version names outcome = by (outcome names).calls.0.1.1.0.0
  where
    by : ◌≡◌ {A = ℕ} 2 1 → ⊥
    by same = absurd cc

no_earlier_version : NameBook → IsPinnedOutcome (called 1 (Answered (Method 0))) (called 1 (Answered (Method 0))) → ⊥
no_earlier_version names outcome = by (outcome names).calls.0.1.1.1.1.0.0
  where
    by : ◌≡◌ {A = ℕ} 1 2 → ⊥
    by same = absurd cc

-- a call has the reply of its version, under a pin and without one
no_later_body : NameBook → IsPinnedOutcome (called 1 (Answered (Method 1))) (called 2 (Answered (Method 1))) → ⊥
no_later_body names outcome = by (outcome names).calls.0.1.1.0.1
  where
    by : Answered (Method 1) ≡ Answered (Method 0) → ⊥
    by same = absurd cc

no_earlier_body : NameBook → IsPinnedOutcome (called 1 (Answered (Method 0))) (called 2 (Answered (Method 0))) → ⊥
no_earlier_body names outcome = by (outcome names).calls.0.1.1.1.1.0.2
  where
    by : Answered (Method 0) ≡ Answered (Method 1) → ⊥
    by same = absurd cc

-- ---- each caller of a phase has its own pin

abbrev pub two_callers : List CallerLine → List CallerLine → List Part
two_callers second first = record { caller = 2; lines = second } ∷ record { caller = 1; lines = first } ∷ []

abbrev pub two_logged : List CallLine → List CallLine → List PartLog
two_logged second first = record { caller = 2; lines = second } ∷ record { caller = 1; lines = first } ∷ []

abbrev pub of_two : List Phase
of_two =
    record { edits = (AddClass 0 [] ∷ AddSelector 0 1 ∷ Define 0 (0 ∷ []) 0 ∷ []) ∷ []; callers = two_callers (Pin ∷ []) (call ∷ []) }
    ∷ record { edits = (Define 0 (0 ∷ []) 1 ∷ []) ∷ []; callers = two_callers (call ∷ []) (call ∷ []) } ∷ []

abbrev pub IsOutcomeOfTwo : CallLine → CallLine → Type 0
IsOutcomeOfTwo pinned_call other_call = (names : NameBook) → Outcome (record { names = names; phases = of_two }) 100 (record {
  phases =
      record { from = 0; to = 1; edits = Accepted 1 ∷ []; callers = two_logged (PinnedAt 1 ∷ []) (called 1 (Answered (Method 0)) ∷ []) }
      ∷ record { from = 1; to = 2; edits = Accepted 2 ∷ []; callers = two_logged (pinned_call ∷ []) (other_call ∷ []) } ∷ [];
  last = 2;
})

-- caller 2 is pinned, and caller 1 isn't
pub of_two_is_outcome : IsOutcomeOfTwo (called 1 (Answered (Method 0))) (called 2 (Answered (Method 1)))
of_two_is_outcome names = record {
  shape = ((refl, ((refl, (tt, tt)), ((refl, (tt, tt)), tt))), ((refl, ((refl, (tt, tt)), ((refl, (tt, tt)), tt))), tt));
  versions = (refl, (refl, tt), refl, (refl, (refl, tt), refl, refl));
  edits = ((refl, tt), ((refl, tt), tt));
  calls = (((refl, lit≤ tt), ((refl, refl), tt)), (((refl, lit≤ tt, refl), ((refl, lit≤ tt, refl), tt)), tt));
}

no_pin_of_another : NameBook → IsOutcomeOfTwo (called 1 (Answered (Method 0))) (called 1 (Answered (Method 0))) → ⊥
no_pin_of_another names outcome = by (outcome names).calls.1.0.1.0.0
  where
    by : ◌≡◌ {A = ℕ} 1 2 → ⊥
    by same = absurd cc

-- ---- versions are counted from 0, and a batch without a cause of refusal is accepted

abbrev pub IsOutcomeOfClass : ℕ → ℕ → ℕ → EditLine → Type 0
IsOutcomeOfClass from to last line = (names : NameBook) → Outcome (record { names = names; phases = edits_alone ((AddClass 0 [] ∷ []) ∷ []) ∷ [] }) 100
    (record { phases = edits_logged from to (line ∷ []) ∷ []; last = last })

pub class_is_outcome : IsOutcomeOfClass 0 1 1 (Accepted 1)
class_is_outcome names = record { shape = ((refl, tt), tt); versions = (refl, (refl, tt), refl, refl); edits = ((refl, tt), tt); calls = tt }

no_first_version_1 : NameBook → (to last number : ℕ) → IsOutcomeOfClass 1 to last (Accepted number) → ⊥
no_first_version_1 names to last number outcome = by (outcome names).versions.0
  where
    by : ◌≡◌ {A = ℕ} 1 0 → ⊥
    by same = absurd cc

no_last_version_2 : NameBook → IsOutcomeOfClass 0 1 2 (Accepted 1) → ⊥
no_last_version_2 names outcome = by (outcome names).versions.3
  where
    by : ◌≡◌ {A = ℕ} 2 1 → ⊥
    by same = absurd cc

no_refusal_without_a_cause : NameBook → IsOutcomeOfClass 0 0 0 (Refused 1 ClassExists) → ⊥
no_refusal_without_a_cause names outcome = by (outcome names).edits.0.0
  where
    by : Refused 1 ClassExists ≡ Accepted 1 → ⊥
    by same = absurd cc

-- ---- at the greatest version no batch is accepted, not even one without edits

abbrev pub full : List Phase
full = edits_alone ((AddClass 0 [] ∷ []) ∷ [] ∷ []) ∷ []

pub full_is_outcome : (names : NameBook) → Outcome (record { names = names; phases = full }) 1
    (record { phases = edits_logged 0 1 (Accepted 1 ∷ VersionsFull ∷ []) ∷ []; last = 1 })
full_is_outcome names = record {
  shape = ((refl, tt), tt);
  versions = (refl, (refl, tt), refl, refl);
  edits = ((refl, (refl, tt)), tt);
  calls = tt;
}

full_at_the_greatest : (program : Program) (batch : Batch) → edit_line (2 ^ 48) (2 ^ 48) program batch ≡ VersionsFull
full_at_the_greatest program batch = refl

-- ---- the accepted batches, and the callers in order of first appearance

two_batches_one_history : history_of pinned (pinned_log Unpinned Unpinned)
    ≡ (AddClass 0 [] ∷ AddSelector 0 1 ∷ Define 0 (0 ∷ []) 0 ∷ []) ∷ (Define 0 (0 ∷ []) 1 ∷ []) ∷ []
two_batches_one_history = refl

callers_once : callers_of
    (record { edits = []; callers = record { caller = 2; lines = [] } ∷ record { caller = 1; lines = [] } ∷ [] }
    ∷ record { edits = []; callers = record { caller = 1; lines = [] } ∷ record { caller = 3; lines = [] } ∷ [] } ∷ [])
    ≡ 2 ∷ 1 ∷ 3 ∷ []
callers_once = refl
