-- Bytes are one script, or have one fault.
use Rattle.std.specs.Prelude.{◌≡◌, ℕ, List}
use Rattle.dt_script.specs.Script.{Script}
use Rattle.dt_script.specs.ScriptOf.{IsScriptOf, IsFaultOf}
use Rattle.dt_script.specs.declared.script_fault.ScriptFault.{ScriptFault}

-- Bytes are one script at most.
abbrev pub OneScript : Type 0
OneScript = (readers : ℕ) (bytes : List ℕ) (a b : Script) → IsScriptOf readers bytes a → IsScriptOf readers bytes b → a ≡ b

-- They have one fault at most.
abbrev pub OneFault : Type 0
OneFault = (readers : ℕ) (bytes : List ℕ) (a b : ScriptFault) → IsFaultOf readers bytes a → IsFaultOf readers bytes b → a ≡ b

-- And no script has a fault.
abbrev pub ScriptsHaveNoFault : Type 0
ScriptsHaveNoFault = (readers : ℕ) (bytes : List ℕ) (script : Script) (fault : ScriptFault)
    → IsScriptOf readers bytes script → IsFaultOf readers bytes fault → ⊥
