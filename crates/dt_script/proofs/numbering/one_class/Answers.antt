use Rattle.std.proofs.Common.{[], ◌∷◌}
use Rattle.dt_script.proofs.NumbersStay.{full_class, handed_number}
use Rattle.dt_script.proofs.OwnNames.{own_before}
use Rattle.dt_script.proofs.numbering.one_class.Goals as goal

pub returns-in_err-a-clause-numbered : goal.returns-in_err-a-clause-numbered
returns-in_err-a-clause-numbered c =
    handed_number c.args.names.now c.class.new.self (c.args.a.now ∷ []) c.from_residual.result c.in_err-a.field-0.0 c.from_residual.ensures.1
    (λ full. full_class c.args.names.now c.args.a.now [] (c.in_err-a.ensures.full.0 full))

pub returns-in_err-a-clause-own : goal.returns-in_err-a-clause-own
returns-in_err-a-clause-own c =
    own_before c.args.names.now c.class.new.self (c.args.a.now ∷ []) c.in_err-a.ensures.err
