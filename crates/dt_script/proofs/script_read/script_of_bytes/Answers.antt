use Rattle.dt_script.proofs.LinesRead.{on_both, script_read}
use Rattle.dt_script.proofs.script_read.script_of_bytes.Goals as goal

pub returns-in-Ok-read_lines-clause-script : goal.returns-in-Ok-read_lines-clause-script
returns-in-Ok-read_lines-clause-script c =
    let (past, has) = c.in-Ok-read_lines.ensures.read in
    on_both c.finish.result c.finish.ensures.script c.finish.ensures.ended (λ script is ended.
    script_read c.args.readers c.read_lines.new.reading c.args.bytes.now _ past script c.in-Some.ensures.header has ended is)
