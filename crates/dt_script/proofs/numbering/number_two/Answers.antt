use Rattle.std.proofs.Common.{[], ◌∷◌, subst}
use Rattle.std.specs.Prelude.{IsTrue, not}
use Rattle.dt_script.specs.NameBook.{NameBook, is_within_limits, with_class_name}
use Rattle.dt_selectors.specs.declared.names.NameFault.TheVariants.{NamesFull}
use Rattle.dt_script.proofs.HandedOn.{handed_on}
use Rattle.dt_script.proofs.NumbersStay.{full_class, first_stays}
use Rattle.dt_script.proofs.OwnNames.{own_before}
use Rattle.dt_script.specs.Growth.{GrewAtEnd}
use Rattle.dt_script.proofs.numbering.number_two.Goals as goal

pub returns-in_err-first-clause-full : goal.returns-in_err-first-clause-full
returns-in_err-first-clause-full c = λ full.
    full_class c.args.names.now c.args.first.now (c.args.second.now ∷ []) (c.in_err-first.ensures.full.0 (handed_on c.from_residual.result c.in_err-first.field-0.0 NamesFull c.from_residual.ensures.1 full))

pub returns-in_err-second-clause-full : goal.returns-in_err-second-clause-full
returns-in_err-second-clause-full c = λ full.
    subst (λ (b : NameBook). IsTrue (not (is_within_limits (with_class_name b c.args.second.now)))) c.in_ok-first.ensures.ok
    (full_class c.class.new.self c.args.second.now [] (c.in_err-second.ensures.full.0 (handed_on c.from_residual-in_err-second.result c.in_err-second.field-0.0 NamesFull c.from_residual-in_err-second.ensures.1 full)))

pub returns-clause-first : goal.returns-clause-first
returns-clause-first c =
    first_stays c.args.names.now c.class.new.self c.class-2.new.self c.args.first.now c.args.second.now c.in_ok-first.first c.in_ok-first.ensures.ok c.in_ok-second.ensures.ok c.in_ok-first.ensures.number

pub returns-in_err-first-clause-own : goal.returns-in_err-first-clause-own
returns-in_err-first-clause-own c =
    own_before c.args.names.now c.class.new.self (c.args.first.now ∷ c.args.second.now ∷ []) c.in_err-first.ensures.err

pub returns-in_err-second-clause-own : goal.returns-in_err-second-clause-own
returns-in_err-second-clause-own c =
    subst (λ (b : NameBook). GrewAtEnd c.class-2.new.self (with_class_name b c.args.second.now)) c.in_ok-first.ensures.ok
    (own_before c.class.new.self c.class-2.new.self (c.args.second.now ∷ []) c.in_err-second.ensures.err)
