use Rattle.std.proofs.Common.{◌≡◌, ◌++◌, drop}
use Rattle.dt_run.specs.Performing.{call_lines, pin_after_lines}
use Rattle.dt_run.proofs.perform.phase.perform_lines.Given as goal

abbrev pub invariant-loop-line : goal.invariant-loop-line
invariant-loop-line g l = record {
  same : l.current ≡ l.fn.current;
  lines : l.logged.items ++ call_lines l.fn.current l.caller (drop l.line-index l.lines)
      ≡ l.fn.logged.items ++ call_lines l.fn.current l.fn.caller l.lines;
  pin : pin_after_lines l.fn.current l.caller (drop l.line-index l.lines) ≡ pin_after_lines l.fn.current l.fn.caller l.lines;
}
