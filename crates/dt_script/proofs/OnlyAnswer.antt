-- What reading a source answers, where the bytes that it has left are known.
use Rattle.std.proofs.Common.{◌≡◌, ℕ, ◌≤◌, List, length, Option, Some, None, Result, Ok, Err, inl, inr, refl, sym, ap, subst}
use Rattle.std.specs.Prelude.{IfOk, IfErr, IfSome, ◌⊎◌}
use Rattle.dt_script.specs.ScriptOf.{IsScriptOf, IsFaultOf}
use Rattle.dt_script.specs.OneAnswer.{OneScript, OneFault, ScriptsHaveNoFault}
use Rattle.dt_script.specs.ReadScript.{IsAnswerFor}
use Rattle.dt_script.specs.declared.limits.TheConstants.{SCRIPT_BYTES}
use Rattle.dt_script.specs.declared.script.Script.{Script}
use Rattle.dt_script.specs.declared.script_fault.ScriptFault.{ScriptFault}
use Rattle.dt_script.specs.declared.script_fault.ScriptFault.TheVariants.{NoMemory}

-- want of memory may always be answered
no_memory : (readers : ℕ) (bytes : List ℕ) → IsAnswerFor readers bytes (Err NoMemory)
no_memory readers bytes = record { script = λ script is. inr refl; fault = λ fault is. inr refl }

-- the answer for the bytes
pub answer_for : OneScript → OneFault → ScriptsHaveNoFault → (readers : ℕ) (bytes : List ℕ) (result : Result Script ScriptFault) → IfOk result (λ script. IsScriptOf readers bytes script)
    → IfErr result (λ fault. (fault ≡ NoMemory) ⊎ IsFaultOf readers bytes fault) → IsAnswerFor readers bytes result
answer_for one_script one_fault either readers bytes (Ok script) is none = record {
  script = λ other also. inl (ap (λ s. Ok s) (one_script readers bytes script other is also));
  fault = λ fault has. absurd (either readers bytes script fault is has);
}
answer_for one_script one_fault either readers bytes (Err fault) none (inl is) = subst (λ (f : ScriptFault). IsAnswerFor readers bytes (Err f)) (sym is) (no_memory readers bytes)
answer_for one_script one_fault either readers bytes (Err fault) none (inr has) = record {
  script = λ script is. absurd (either readers bytes script fault is has);
  fault = λ other also. inl (ap (λ f. Err f) (one_fault readers bytes fault other has also));
}

-- the same for the bytes that the source told
pub answer_told : (readers : ℕ) (left : Option (List ℕ)) (bytes : List ℕ) (result : Result Script ScriptFault) → IfSome left (λ told. bytes ≡ told) → IsAnswerFor readers bytes result
    → IfSome left (λ told. length told ≤ SCRIPT_BYTES → IsAnswerFor readers told result)
answer_told readers None bytes result whole answer = tt
answer_told readers (Some told) bytes result whole answer = λ short. subst (λ (l : List ℕ). IsAnswerFor readers l result) whole answer
