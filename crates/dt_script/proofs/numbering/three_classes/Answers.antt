use Rattle.std.proofs.Common.{[], ◌∷◌, subst}
use Rattle.std.specs.Prelude.{IsTrue, not}
use Rattle.dt_script.specs.NameBook.{NameBook, is_within_limits, with_class_name}
use Rattle.dt_script.proofs.NumbersStay.{full_class, handed_number, many_stay, three_numbers}
use Rattle.dt_script.proofs.OwnNames.{own_more, own_before}
use Rattle.dt_script.specs.Growth.{GrewAtEnd}
use Rattle.dt_script.proofs.numbering.three_classes.Goals as goal

pub returns-in_err-a-clause-numbered : goal.returns-in_err-a-clause-numbered
returns-in_err-a-clause-numbered c =
    handed_number c.args.names.now c.number_two.new.names (c.args.a.now ∷ c.args.b.now ∷ c.args.c.now ∷ []) c.from_residual.result c.in_err-a.field-0.0 c.from_residual.ensures.1
    (λ full. many_stay (with_class_name (with_class_name c.args.names.now c.args.a.now) c.args.b.now) (c.args.c.now ∷ []) (c.in_err-a.ensures.full full))

pub returns-in_err-c-clause-numbered : goal.returns-in_err-c-clause-numbered
returns-in_err-c-clause-numbered c =
    handed_number c.args.names.now c.class.new.self (c.args.a.now ∷ c.args.b.now ∷ c.args.c.now ∷ []) c.from_residual-in_err-c.result c.in_err-c.field-0.0 c.from_residual-in_err-c.ensures.1
    (λ full. subst (λ (b : NameBook). IsTrue (not (is_within_limits (with_class_name b c.args.c.now)))) c.in_ok-a.ensures.ok
    (full_class c.number_two.new.names c.args.c.now [] (c.in_err-c.ensures.full.0 full)))

pub returns-clause-numbered : goal.returns-clause-numbered
returns-clause-numbered c =
    three_numbers c.args.names.now c.number_two.new.names c.class.new.self c.args.a.now c.args.b.now c.args.c.now _ _ _ _ c.in_ok-a.ensures.ok c.in_ok-c.ensures.ok c.in_ok-a.ensures.first c.in_ok-a.ensures.second c.in_ok-c.ensures.number c.tuple_of.ensures

pub returns-in_err-a-clause-own : goal.returns-in_err-a-clause-own
returns-in_err-a-clause-own c =
    own_more c.number_two.new.names (with_class_name (with_class_name c.args.names.now c.args.a.now) c.args.b.now) (c.args.c.now ∷ []) c.in_err-a.ensures.own

pub returns-in_err-c-clause-own : goal.returns-in_err-c-clause-own
returns-in_err-c-clause-own c =
    subst (λ (b : NameBook). GrewAtEnd c.class.new.self (with_class_name b c.args.c.now)) c.in_ok-a.ensures.ok
    (own_before c.number_two.new.names c.class.new.self (c.args.c.now ∷ []) c.in_err-c.ensures.err)
