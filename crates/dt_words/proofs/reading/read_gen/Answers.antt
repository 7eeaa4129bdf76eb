use Rattle.std.proofs.Common.{◌∙◌, codes, drop}
use Rattle.dt_words.specs.CommandOf.{gen_names, gen_of}
use Rattle.dt_words.proofs.Commands.{read, refused}
use Rattle.dt_words.proofs.Parser.{gen_is_simple}
use Rattle.dt_words.proofs.reading.read_gen.Goals as goal

pub returns-in_err-matches-clause-command : goal.returns-in_err-matches-clause-command
returns-in_err-matches-clause-command c =
    refused gen_names (drop 1 c.args.words.now) gen_of c.from_residual-in_err-matches.result c.in_err-matches.field-0.0 c.from_residual-in_err-matches.ensures.1
    (c.in_err-matches.ensures (codes "gen") gen_names c.in_ok-parser.ensures gen_is_simple)

pub returns-in-Some-clause-command : goal.returns-in-Some-clause-command
returns-in-Some-clause-command c =
    read gen_names (drop 1 c.args.words.now) c.in_ok-matches.matches gen_of c.gen_of.result
    (c.in_ok-matches.ensures (codes "gen") gen_names c.in_ok-parser.ensures gen_is_simple) c.gen_of.ensures.value ∙ c.in-Some.is

pub returns-clause-command : goal.returns-clause-command
returns-clause-command c = λ usage.
    read gen_names (drop 1 c.args.words.now) c.in_ok-matches.matches gen_of c.gen_of.result
    (c.in_ok-matches.ensures (codes "gen") gen_names c.in_ok-parser.ensures gen_is_simple) c.gen_of.ensures.value ∙ c.in-None.is
