use Rattle.std.proofs.Common.{[]}
use Rattle.dt_script.specs.declared.written.Written.TheVariants as written
use Rattle.dt_script.proofs.Tokens.{handed_line, full_class}
use Rattle.dt_script.proofs.OwnNames.{own_none}
use Rattle.dt_script.specs.Written.{tokens_of}
use Rattle.dt_script.proofs.numbered_line.class_line.Goals as goal

pub returns-in_err-class-clause-numbered : goal.returns-in_err-class-clause-numbered
returns-in_err-class-clause-numbered c =
    handed_line c.args.names.now c.class.new.self (written.AddClass c.args.class) c.from_residual.result c.in_err-class.field-0.0 c.from_residual.ensures.1
    (λ full. full_class c.args.names.now c.args.class.now ([]) (c.in_err-class.ensures.full.0 full))

pub returns-in_err-class-clause-own : goal.returns-in_err-class-clause-own
returns-in_err-class-clause-own c =
    own_none c.args.names.now c.class.new.self (tokens_of (written.AddClass c.args.class)) c.in_err-class.ensures.err
