use Rattle.std.proofs.Common.{◌∙◌, sym}
use Rattle.dt_words.proofs.Commands.{rest_kept, stray_command}
use Rattle.dt_words.proofs.reading.read_words.Goals as goal

pub returns-then-has_stray-clause-usage : goal.returns-then-has_stray-clause-usage
returns-then-has_stray-clause-usage c = λ usage. stray_command c.args.words.now (sym c.has_stray.ensures ∙ c.if-has_stray.true)

pub read_run-requires : goal.read_run-requires
read_run-requires c = rest_kept c.args.words.now (sym c.has_stray.ensures ∙ c.if-has_stray.false)

pub read_gen-requires : goal.read_gen-requires
read_gen-requires c = rest_kept c.args.words.now (sym c.has_stray.ensures ∙ c.if-has_stray.false)
