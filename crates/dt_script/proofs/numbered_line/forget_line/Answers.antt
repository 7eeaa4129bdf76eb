use Rattle.std.proofs.Common.{[]}
use Rattle.dt_script.specs.declared.written.Written.TheVariants as written
use Rattle.dt_script.proofs.Tokens.{handed_line, full_selector}
use Rattle.dt_script.proofs.OwnNames.{own_none}
use Rattle.dt_script.specs.Written.{tokens_of}
use Rattle.dt_script.proofs.numbered_line.forget_line.Goals as goal

pub returns-in_err-selector-clause-numbered : goal.returns-in_err-selector-clause-numbered
returns-in_err-selector-clause-numbered c =
    handed_line c.args.names.now c.selector.new.self (written.DropSelector c.args.selector) c.from_residual.result c.in_err-selector.field-0.0 c.from_residual.ensures.1
    (λ full. full_selector c.args.names.now c.args.selector.now ([]) (c.in_err-selector.ensures.full.0 full))

pub returns-in_err-selector-clause-own : goal.returns-in_err-selector-clause-own
returns-in_err-selector-clause-own c =
    own_none c.args.names.now c.selector.new.self (tokens_of (written.DropSelector c.args.selector)) c.in_err-selector.ensures.err
