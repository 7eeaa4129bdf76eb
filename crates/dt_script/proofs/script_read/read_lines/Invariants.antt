use Rattle.std.proofs.Common.{List, ℕ, length}
use Rattle.dt_script.specs.declared.line.Line.{Line}
use Rattle.dt_script.proofs.LinesRead.{IsUpTo}
use Rattle.dt_script.proofs.script_read.read_lines.Given as goal

abbrev pub invariant-loop-left : goal.invariant-loop-left
invariant-loop-left l = (texts : List (List ℕ)) × (past : List Line) × IsUpTo l.readers l.reading l.lines l.left l.number texts past

abbrev pub decreases-loop-left : goal.decreases-loop-left
decreases-loop-left l = length l.left
