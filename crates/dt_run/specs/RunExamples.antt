-- Small worked examples of the smallest script and its run, and of which bytes are scripts.
use Rattle.std.specs.Prelude.{◌≡◌, ℕ, ◌≤◌, List, [], ◌∷◌, length, codes, refl}
use Rattle.std.specs.Fmt.{digits}
use Rattle.std.proofs.Common.{inl, inr, arith}
use Rattle.dt_script.specs.Line.{LineOf}
use Rattle.dt_script.specs.NameBook.{empty_book}
use Rattle.dt_script.specs.OneAnswer.{ScriptsHaveNoFault}
use Rattle.dt_script.specs.Script.{Phase, Script}
use Rattle.dt_script.specs.ScriptOf.{IsScriptOf, IsFaultOf}
use Rattle.dt_script.specs.declared.line.Line.TheVariants.{Header, End}
use Rattle.dt_script.specs.declared.script_fault.ScriptFault.{ScriptFault}
use Rattle.dt_run.specs.Log.{Log, PhaseLog}
use Rattle.dt_run.specs.Run.{IsRunOf, IsScript, IsNoScript}
use Rattle.dt_run.specs.Versions.{HasVersionsFrom}

-- ---- the smallest script, and its run

abbrev pub smallest : List ℕ
smallest = codes "dispatch 1\nend\n"

abbrev pub smallest_script : Script
smallest_script = record { names = empty_book; phases = record { edits = []; callers = [] } ∷ [] }

end_line : LineOf (codes "end") empty_book End empty_book
end_line = record { texts = codes "end" ∷ []; spelled = refl; are_words = refl; written = (refl, tt); numbered = refl; in_range = refl }

pub smallest_is_script : (readers : ℕ) → IsScriptOf readers smallest smallest_script
smallest_is_script readers = record {
  texts = codes "end" ∷ [];
  book = empty_book;
  past = End ∷ Header ∷ [];
  header = refl;
  were_read = inr (empty_book, Header ∷ [], End, (refl, refl), record { is_line = end_line; stands = refl; fits = refl }, refl, refl);
  ended = refl;
  built = refl;
}

-- the log of one phase without edits and callers, after which this version is told as the last; its text where that is 0
abbrev pub phases : List PhaseLog
phases = record { from = 0; to = 0; edits = []; callers = [] } ∷ []

abbrev pub log : ℕ → Log
log last = record { phases = phases; last = last }

abbrev pub text : List ℕ
text = codes "phase 1 0 0\ndone 0\n"

pub smallest_was_run : (readers : ℕ) → IsRunOf readers smallest (log 0) text
unfolding digits
smallest_was_run readers = record {
  script = smallest_script;
  read = smallest_is_script readers;
  outcome = record { shape = ((refl, tt), tt); versions = (refl, tt, refl, refl); edits = (tt, tt); calls = tt };
  printed = refl;
}

-- the log has to be an outcome of the script: without a batch the last version is 0
pub no_other_last : (script : List Phase) → HasVersionsFrom 0 script phases 1 → ⊥
no_other_last [] versions = versions
no_other_last (phase ∷ []) (from, numbered, to, last) = absurd cc
no_other_last (phase ∷ next ∷ more) (from, numbered, to, last) = last

pub no_run_to_version_1 : (readers : ℕ) (bytes own : List ℕ) → IsRunOf readers bytes (log 1) own → ⊥
no_run_to_version_1 readers bytes own ran = no_other_last ran.script.phases ran.outcome.versions

-- the bytes have to be a script
pub no_run_of_no_byte : (readers : ℕ) (one : Log) (own : List ℕ) → IsRunOf readers [] one own → ⊥
no_run_of_no_byte readers one own ran = by ran.read.texts ran.read.header
  where
    by : (texts : List (List ℕ)) → [] ≡ codes "dispatch 1" ∷ texts → ⊥
    by texts header = absurd cc

-- ---- which bytes are scripts

-- every script up to the last byte that it may have
each_script : (readers : ℕ) (bytes : List ℕ) (script : Script) → length bytes ≤ 16777216 → IsScriptOf readers bytes script → IsScript readers bytes
each_script readers bytes script few is = (few, (script, is))

no_longer_script : (readers : ℕ) (bytes : List ℕ) → length bytes ≡ 16777217 → IsScript readers bytes → ⊥
no_longer_script readers bytes long (few, is) = omega (arith, long, few)

-- none is longer, and none has a fault
longer_is_none : (readers : ℕ) (bytes : List ℕ) → length bytes ≡ 16777217 → IsNoScript readers bytes
longer_is_none readers bytes long = inl (omega (arith, long))

each_fault : (readers : ℕ) (bytes : List ℕ) (fault : ScriptFault) → IsFaultOf readers bytes fault → IsNoScript readers bytes
each_fault readers bytes fault is = inr (fault, is)

smallest_is_not_none : ScriptsHaveNoFault → (readers : ℕ) → IsNoScript readers smallest → ⊥
smallest_is_not_none law readers (inl long) = omega (arith, long)
smallest_is_not_none law readers (inr (fault, is)) = law readers smallest smallest_script fault (smallest_is_script readers) is
