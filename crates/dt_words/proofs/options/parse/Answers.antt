use Rattle.clap.specs.Words.{app_of}
use Rattle.dt_words.proofs.Taken.{not_parsed, parsed}
use Rattle.dt_words.proofs.options.parse.Goals as goal

pub returns-in-Ok : goal.returns-in-Ok
returns-in-Ok c = parsed (app_of c.args.parser) _ c.args.words.now c.in-Ok.matches c.texts.ensures c.requires c.in-Ok.ensures.kinds c.in-Ok.ensures.matches

pub returns-in-Err : goal.returns-in-Err
returns-in-Err c =
    not_parsed (app_of c.args.parser) _ c.args.words.now c.in-Err.error c.fault_of.result c.texts.ensures c.requires c.in-Err.ensures.kinds c.fault_of.ensures
