use Rattle.dt_script.proofs.LinesRead.{on_told, fault_next}
use Rattle.dt_script.proofs.script_read.read_lines.Goals as goal

pub returns-in_err-read-clause-fault : goal.returns-in_err-read-clause-fault
returns-in_err-read-clause-fault c =
    let (texts, past, so_far) = c.loop-left.invariant in
    on_told c.from_residual.result c.in_err-read.field-0.0 c.from_residual.ensures.1 (λ fault is bytes header. rw is (
    fault_next c.args.readers c.loop-left.reading bytes c.args.lines.now c.loop-left.left.now c.first_line.result.0.now c.first_line.result.1.now c.loop-left.number texts past c.in_err-read.field-0.0 so_far
    header c.first_line.ensures.lines (c.in_err-read.ensures.fault texts past so_far.has)
    ))
