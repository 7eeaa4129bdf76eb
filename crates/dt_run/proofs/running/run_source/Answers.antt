use Rattle.dt_script.proofs.NamedScript.{script_is_named}
use Rattle.dt_run.proofs.Endings.{ends_performed}
use Rattle.dt_run.proofs.running.run_source.Goals as goal

pub perform_and_print-requires-clause-playable : goal.perform_and_print-requires-clause-playable
perform_and_print-requires-clause-playable g c = λ _ _.
    let read = c.in-Ok.ensures.script in
    c.scripts_read_are_playable.ensures.playable c.args.readers read.0 c.in-Ok.script read.2

pub perform_and_print-requires-clause-names : goal.perform_and_print-requires-clause-names
perform_and_print-requires-clause-names g c = λ _ _.
    let read = c.in-Ok.ensures.script in
    script_is_named c.args.readers read.0 c.in-Ok.script read.2

pub returns-in-Ok-clause-ends : goal.returns-in-Ok-clause-ends
returns-in-Ok-clause-ends g c =
    let read = c.in-Ok.ensures.script in
    ends_performed c.args.readers read.0 _ _ _ _ c.in-Ok.ensures.counted read.1 (c.perform_and_print.ensures.ends read.0 read.2)
