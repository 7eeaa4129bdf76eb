use Rattle.dt_script.proofs.LinesCut.{one_line, line_first}
use Rattle.dt_script.proofs.lines.first_line.Goals as goal

pub returns-in-Some-clause-lines : goal.returns-in-Some-clause-lines
returns-in-Some-clause-lines c =
    line_first c.args.bytes.now c.cut.result.0.now c.in-Some.rest.now c.cut.ensures.free (rw c.in-Some.is at c.cut.ensures.parts)

pub returns-in-None-clause-lines : goal.returns-in-None-clause-lines
returns-in-None-clause-lines c =
    one_line c.args.bytes.now c.cut.result.0.now c.requires c.cut.ensures.free (rw c.in-None.is at c.cut.ensures.parts)
