-- A batch against its edits made one by one.
use Rattle.std.proofs.Common.{◌≡◌, ℕ, ◌+◌, List, [], ◌∷◌, ◌++◌, length, Ok, Err, refl, sym, ap, ◌∙◌, append-nil, arith}
use Rattle.dt_definitions.specs.Program.{Program}
use Rattle.dt_definitions.specs.Step.{step_edit, step_from, step_batch, and_then, Refused}
use Rattle.dt_definitions.specs.Laws.{LeadsTo, BatchIsItsEdits, EditsAreABatch, BatchStopsAtItsEdit, EditsStopABatch}
use Rattle.dt_definitions.specs.declared.edit.Edit.{Edit}

leads : (place : ℕ) (p q : Program) (edits : List Edit) → step_from place p edits ≡ Ok q → LeadsTo p edits q
leads place p q [] h = cc
leads place p q (edit ∷ edits) h =
    let rest : (next : Program) → step_from (place + 1) next edits ≡ Ok q → LeadsTo next edits q = λ next e. leads (place + 1) next q edits e in
    elim (step_edit p edit) as (λ s. step_edit p edit ≡ s → and_then s place (λ next. step_from (place + 1) next edits) ≡ Ok q → LeadsTo p (edit ∷ edits) q) [
      | (Ok next) ↦ λ e k. (next, e, rest next k)
      | (Err why) ↦ λ e k. absurd cc
    ] refl h

-- the steps after those that were accepted
along : (place : ℕ) (p q : Program) (edits more : List Edit) → LeadsTo p edits q
    → step_from place p (edits ++ more) ≡ step_from (length edits + place) q more
along place p q [] more h = rw h (ap (λ n. step_from n q more) (omega arith))
along place p q (edit ∷ edits) more h =
    ap (λ s. and_then s place (λ next. step_from (place + 1) next (edits ++ more))) h.1
    ∙ along (place + 1) h.0 q edits more h.2 ∙ ap (λ n. step_from n q more) (omega arith)

-- the place of the refused edit, counted from that of the first
record Stops (place : ℕ) (p : Program) (edits : List Edit) (refused : Refused) : Type 0 where
  before : List Edit
  edit : Edit
  later : List Edit
  reached : Program
  whole : edits ≡ before ++ edit ∷ later
  counted : refused.at ≡ length before + place
  accepted : LeadsTo p before reached
  cause : step_edit reached edit ≡ Err refused.why

stops : (place : ℕ) (p : Program) (edits : List Edit) (refused : Refused)
    → step_from place p edits ≡ Err refused → Stops place p edits refused
stops place p [] refused h = absurd cc
stops place p (edit ∷ edits) refused h =
    let rest : (next : Program) → step_from (place + 1) next edits ≡ Err refused → Stops (place + 1) next edits refused = λ next e. stops (place + 1) next edits refused e in
    elim (step_edit p edit) as (λ s. step_edit p edit ≡ s → and_then s place (λ next. step_from (place + 1) next edits) ≡ Err refused → Stops place p (edit ∷ edits) refused) [
      | (Ok next) ↦ λ e k.
          let r = rest next k in record {
            before = edit ∷ r.before;
            edit = r.edit;
            later = r.later;
            reached = r.reached;
            whole = ap (λ es. edit ∷ es) r.whole;
            counted = r.counted ∙ omega arith;
            accepted = (next, e, r.accepted);
            cause = r.cause;
          }
      | (Err why) ↦ λ e k.
          let same : record { at = place; why = why } ≡ refused = cc in record {
            before = [];
            edit = edit;
            later = edits;
            reached = p;
            whole = refl;
            counted = sym (ap (λ (r : Refused). r.at) same) ∙ omega arith;
            accepted = refl;
            cause = e ∙ ap (λ (r : Refused). Err r.why) same;
          }
    ] refl h

pub goes_on : (place : ℕ) (p q : Program) (edits more : List Edit) → step_from place p edits ≡ Ok q
    → step_from place p (edits ++ more) ≡ step_from (length edits + place) q more
goes_on place p q edits more h = along place p q edits more (leads place p q edits h)

-- a refusal stands, whatever edits come after
pub stays_refused : (place : ℕ) (p : Program) (edits more : List Edit) (refused : Refused) → step_from place p edits ≡ Err refused
    → step_from place p (edits ++ more) ≡ Err refused
stays_refused place p [] more refused h = absurd cc
stays_refused place p (edit ∷ edits) more refused h =
    let rest : (next : Program) → step_from (place + 1) next edits ≡ Err refused
    → step_from (place + 1) next (edits ++ more) ≡ Err refused =
    λ next e. stays_refused (place + 1) next edits more refused e in
    elim (step_edit p edit) as (λ s. and_then s place (λ next. step_from (place + 1) next edits) ≡ Err refused
    → and_then s place (λ next. step_from (place + 1) next (edits ++ more)) ≡ Err refused) [
      | (Ok next) ↦ λ e. rest next e
      | (Err why) ↦ λ e. e
    ] h

pub batch_is_its_edits : BatchIsItsEdits
batch_is_its_edits p q edits h = leads 1 p q edits h

pub edits_are_a_batch : EditsAreABatch
edits_are_a_batch p q edits h = ap (step_batch p) (sym (append-nil edits)) ∙ along 1 p q edits [] h

pub batch_stops : BatchStopsAtItsEdit
batch_stops p edits refused h =
    let s = stops 1 p edits refused h in record {
      before = s.before;
      edit = s.edit;
      later = s.later;
      reached = s.reached;
      whole = s.whole;
      place = s.counted;
      accepted = s.accepted;
      cause = s.cause;
    }

pub edits_stop_a_batch : EditsStopABatch
edits_stop_a_batch p edits refused s =
    let steps = along 1 p s.reached s.before (s.edit ∷ s.later) s.accepted in
    let stop = ap (λ r. and_then r (length s.before + 1) (λ q. step_from (length s.before + 1 + 1) q s.later)) s.cause in
    let told : record { at = length s.before + 1; why = refused.why } ≡ refused = rw (sym s.place) refl in
    ap (step_batch p) s.whole ∙ steps ∙ stop ∙ ap Err told
