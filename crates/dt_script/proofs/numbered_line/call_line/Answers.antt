use Rattle.std.proofs.Common.{map}
use Rattle.dt_script.specs.Written.{ClassName, texts_of_classes, tokens_of}
use Rattle.dt_script.specs.declared.written.Written.TheVariants as written
use Rattle.dt_script.proofs.Tokens.{handed_line, full_selector}
use Rattle.dt_script.proofs.OwnNames.{own_none, own_classes}
use Rattle.dt_script.specs.NameBook.{with_selector_name}
use Rattle.dt_script.proofs.numbered_line.call_line.Goals as goal

pub returns-in_err-selector-clause-numbered : goal.returns-in_err-selector-clause-numbered
returns-in_err-selector-clause-numbered c =
    handed_line c.args.names.now c.selector.new.self (written.Call c.args.selector c.args.classes) c.from_residual.result c.in_err-selector.field-0.0 c.from_residual.ensures.1
    (λ full. full_selector c.args.names.now c.args.selector.now (map ClassName (texts_of_classes c.args.classes)) (c.in_err-selector.ensures.full.0 full))

pub returns-in_err-selector-clause-own : goal.returns-in_err-selector-clause-own
returns-in_err-selector-clause-own c =
    own_none c.args.names.now c.selector.new.self (tokens_of (written.Call c.args.selector c.args.classes)) c.in_err-selector.ensures.err

pub returns-in_err-classes-clause-own : goal.returns-in_err-classes-clause-own
returns-in_err-classes-clause-own c =
    own_classes (with_selector_name c.args.names.now c.args.selector.now) c.selector.new.self c.number_classes.new.names (texts_of_classes c.args.classes) c.in_ok-selector.ensures.ok c.in_err-classes.ensures.own
