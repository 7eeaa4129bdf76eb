-- What follows of a generated text: it is a script, and no longer than a script may be.
use Rattle.std.specs.Prelude.{ℕ, ◌≤◌, List, ◌++◌, length, map, codes, decimal}
use Rattle.std.specs.List.{range_with_len}
use Rattle.dt_script.specs.NameBook.{NameBook}
use Rattle.dt_script.specs.Script.{Script, script_of}
use Rattle.dt_script.specs.ScriptOf.{IsScriptOf}
use Rattle.dt_script.specs.GeneratedSize.{IsSize}
use Rattle.dt_script.specs.GeneratedLines.{definition_count, caller_count, generated_lines}
use Rattle.dt_script.specs.GeneratedText.{generated_text}
use Rattle.dt_script.specs.declared.limits.TheConstants.{SCRIPT_BYTES}

-- a letter with each number below the count
abbrev pub numbered_names : List ℕ → ℕ → List (List ℕ)
numbered_names letter count = map (λ number. letter ++ decimal number) (range_with_len 0 count)

-- the book of so many classes, selectors and bodies
abbrev pub numbered_book : ℕ → ℕ → ℕ → NameBook
numbered_book classes selectors bodies = record {
  classes = numbered_names (codes "c") classes;
  selectors = numbered_names (codes "s") selectors;
  bodies = numbered_names (codes "b") bodies;
}

-- the script of the generated lines: each name has the number that it is spelled with
abbrev pub generated_script : ℕ → ℕ → ℕ → Script
generated_script number classes selectors =
    script_of (numbered_book classes selectors (definition_count selectors)) (generated_lines number classes selectors)

-- A generated text is the script of its lines, where there are as many readers as it has callers.
abbrev pub GeneratedIsScript : Type 0
GeneratedIsScript = (number classes selectors readers : ℕ) → IsSize classes selectors → caller_count ≤ readers
    → IsScriptOf readers (generated_text number classes selectors) (generated_script number classes selectors)

-- It has no more bytes than a script may have.
abbrev pub GeneratedIsShort : Type 0
GeneratedIsShort = (number classes selectors : ℕ) → IsSize classes selectors
    → length (generated_text number classes selectors) ≤ SCRIPT_BYTES
