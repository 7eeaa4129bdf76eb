use Rattle.std.proofs.Common.{◌∙◌, codes, drop}
use Rattle.dt_words.specs.CommandOf.{run_names, run_of}
use Rattle.dt_words.proofs.Commands.{read, refused}
use Rattle.dt_words.proofs.Parser.{run_is_simple}
use Rattle.dt_words.proofs.reading.read_run.Goals as goal

pub returns-in_err-matches-clause-command : goal.returns-in_err-matches-clause-command
returns-in_err-matches-clause-command c =
    refused run_names (drop 1 c.args.words.now) run_of c.from_residual-in_err-matches.result c.in_err-matches.field-0.0 c.from_residual-in_err-matches.ensures.1
    (c.in_err-matches.ensures (codes "run") run_names c.in_ok-parser.ensures run_is_simple)

pub returns-in-Some-clause-command : goal.returns-in-Some-clause-command
returns-in-Some-clause-command c =
    read run_names (drop 1 c.args.words.now) c.in_ok-matches.matches run_of c.run_of.result
    (c.in_ok-matches.ensures (codes "run") run_names c.in_ok-parser.ensures run_is_simple) c.run_of.ensures.value ∙ c.in-Some.is

pub returns-clause-command : goal.returns-clause-command
returns-clause-command c = λ usage.
    read run_names (drop 1 c.args.words.now) c.in_ok-matches.matches run_of c.run_of.result
    (c.in_ok-matches.ensures (codes "run") run_names c.in_ok-parser.ensures run_is_simple) c.run_of.ensures.value ∙ c.in-None.is
