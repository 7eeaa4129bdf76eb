use Rattle.dt_script.specs.Cut.{parts_at}
use Rattle.std.proofs.Common.{[], ◌∙◌, ◌∷◌, map}
use Rattle.dt_script.specs.Written.{Plain, ClassName, tokens_of}
use Rattle.dt_script.specs.declared.written.Written.TheVariants as written
use Rattle.dt_script.proofs.Tokens.{parents_full, subclass_numbered, handed_line, full_class}
use Rattle.dt_script.proofs.OwnNames.{own_none, own_classes}
use Rattle.dt_script.specs.NameBook.{with_class_name}
use Rattle.dt_script.proofs.numbered_line.subclass_line.Goals as goal

pub returns-in_err-class-clause-numbered : goal.returns-in_err-class-clause-numbered
returns-in_err-class-clause-numbered c =
    handed_line c.args.names.now c.class.new.self (written.AddSubclass c.args.class c.args.parents) c.from_residual.result c.in_err-class.field-0.0 c.from_residual.ensures.1
    (λ full. full_class c.args.names.now c.args.class.now (Plain (60 ∷ []) ∷ map ClassName (parts_at 32 c.args.parents.now)) (c.in_err-class.ensures.full.0 full))

pub returns-in_err-parents-clause-numbered : goal.returns-in_err-parents-clause-numbered
returns-in_err-parents-clause-numbered c =
    handed_line c.args.names.now c.number_parents.new.names (written.AddSubclass c.args.class c.args.parents) c.from_residual-in_err-parents.result c.in_err-parents.field-0.0 c.from_residual-in_err-parents.ensures.1
    (λ full. parents_full c.args.names.now c.class.new.self c.args.class.now (parts_at 32 c.args.parents.now) c.in_ok-class.ensures.ok (c.in_err-parents.ensures.full full))

pub returns-in-Ok-clause-numbered : goal.returns-in-Ok-clause-numbered
returns-in-Ok-clause-numbered c =
    subclass_numbered c.args.names.now c.class.new.self c.number_parents.new.names c.args.class.now (parts_at 32 c.args.parents.now) c.in_ok-class.class c.in-Ok.parents _ c.in_ok-class.ensures.ok c.in_ok-class.ensures.number
    c.in_ok-parents.ensures.ok c.in_ok-parents.ensures.numbers (c.in-Ok.ensures ∙ c.deref.ensures.value)

pub returns-in_err-class-clause-own : goal.returns-in_err-class-clause-own
returns-in_err-class-clause-own c =
    own_none c.args.names.now c.class.new.self (tokens_of (written.AddSubclass c.args.class c.args.parents)) c.in_err-class.ensures.err

pub returns-in_err-parents-clause-own : goal.returns-in_err-parents-clause-own
returns-in_err-parents-clause-own c =
    own_classes (with_class_name c.args.names.now c.args.class.now) c.class.new.self c.number_parents.new.names (parts_at 32 c.args.parents.now) c.in_ok-class.ensures.ok c.in_err-parents.ensures.own

pub returns-in-Ok-clause-own : goal.returns-in-Ok-clause-own
returns-in-Ok-clause-own c =
    own_classes (with_class_name c.args.names.now c.args.class.now) c.class.new.self c.number_parents.new.names (parts_at 32 c.args.parents.now) c.in_ok-class.ensures.ok c.in_ok-parents.ensures.own

pub returns-clause-own : goal.returns-clause-own
returns-clause-own c =
    own_classes (with_class_name c.args.names.now c.args.class.now) c.class.new.self c.number_parents.new.names (parts_at 32 c.args.parents.now) c.in_ok-class.ensures.ok c.in_ok-parents.ensures.own
