use Rattle.std.proofs.Common.{◌∙◌, ap, subst}
use Rattle.std.specs.Prelude.{Some}
use Rattle.dt_run.specs.Ending.{Outside, outside, Ending}
use Rattle.dt_run.proofs.Endings.{words_ask, words_ask_once, always_script, always_done, loses_none}
use Rattle.dt_run.proofs.running.run.Goals as goal

pub returns-in-Ok-Run-clause-script_always : goal.returns-in-Ok-Run-clause-script_always
returns-in-Ok-Run-clause-script_always g c = λ readers asked calm.
    let ran = c.run_by in
    let own = words_ask c.args.words.now c.in-Ok-Run.table c.in-Ok-Run.limits c.readers.result (c.in-Ok-Run.ensures.command ∙ ap Some c.in-Ok-Run.field-0-is) c.readers.ensures.value in
    let old : Outside = outside (g.S.Source.left c.args.source.now) (g.S.Source.faults c.args.source.now) (g.K.Sink.taken c.args.sink.now) (g.K.Sink.faults c.args.sink.now) in
    let new : Outside = outside (g.S.Source.left ran.new.source) (g.S.Source.faults ran.new.source) (g.K.Sink.taken ran.new.sink) (g.K.Sink.faults ran.new.sink) in
    always_script c.bytes_have_one_answer.ensures.either readers ran.result.status ran.result.log old new
    (subst (λ r. Ending r ran.result.status ran.result.log old new) (words_ask_once c.args.words.now c.readers.result readers own asked) ran.ensures.ends) calm

pub returns-in-Ok-Run-clause-complete : goal.returns-in-Ok-Run-clause-complete
returns-in-Ok-Run-clause-complete g c = λ readers asked calm calm_sink.
    let ran = c.run_by in
    let own = words_ask c.args.words.now c.in-Ok-Run.table c.in-Ok-Run.limits c.readers.result (c.in-Ok-Run.ensures.command ∙ ap Some c.in-Ok-Run.field-0-is) c.readers.ensures.value in
    let old : Outside = outside (g.S.Source.left c.args.source.now) (g.S.Source.faults c.args.source.now) (g.K.Sink.taken c.args.sink.now) (g.K.Sink.faults c.args.sink.now) in
    let new : Outside = outside (g.S.Source.left ran.new.source) (g.S.Source.faults ran.new.source) (g.K.Sink.taken ran.new.sink) (g.K.Sink.faults ran.new.sink) in
    always_done c.bytes_have_one_answer.ensures.either readers ran.result.status ran.result.log old new
    (subst (λ r. Ending r ran.result.status ran.result.log old new) (words_ask_once c.args.words.now c.readers.result readers own asked) ran.ensures.ends) calm calm_sink

pub returns-in-Ok-Gen-clause-reads_at_most : goal.returns-in-Ok-Gen-clause-reads_at_most
returns-in-Ok-Gen-clause-reads_at_most g c = loses_none 16777217 (g.S.Source.left c.args.source.now)
