-- What the words of a set of callers stand for.
use Rattle.std.specs.Prelude.{ℕ, Bool}
use Rattle.dt_graph.specs.ClassSet.{has_bit}
use Rattle.dt_script.specs.declared.caller_set.CallerSet.{CallerSet}

-- whether the caller is in the set: its bit is set
abbrev pub has_caller : CallerSet → ℕ → Bool
has_caller callers caller = has_bit callers.words caller
