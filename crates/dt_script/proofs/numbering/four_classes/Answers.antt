use Rattle.std.proofs.Common.{[], ◌∷◌}
use Rattle.dt_script.specs.NameBook.{with_class_name}
use Rattle.dt_script.proofs.NumbersStay.{handed_number, many_stay, four_numbers}
use Rattle.dt_script.proofs.OwnNames.{own_more}
use Rattle.dt_script.proofs.numbering.four_classes.Goals as goal

pub returns-in_err-a-clause-numbered : goal.returns-in_err-a-clause-numbered
returns-in_err-a-clause-numbered c =
    handed_number c.args.names.now c.number_two.new.names (c.args.a.now ∷ c.args.b.now ∷ c.args.c.now ∷ c.args.d.now ∷ []) c.from_residual.result c.in_err-a.field-0.0 c.from_residual.ensures.1
    (λ full. many_stay (with_class_name (with_class_name c.args.names.now c.args.a.now) c.args.b.now) (c.args.c.now ∷ c.args.d.now ∷ []) (c.in_err-a.ensures.full full))

pub returns-clause-numbered : goal.returns-clause-numbered
returns-clause-numbered c =
    four_numbers c.args.names.now c.number_two.new.names c.number_two-2.new.names c.args.a.now c.args.b.now c.args.c.now c.args.d.now _ _ _ _ _ c.in_ok-a.ensures.ok c.in_ok-c.ensures.ok c.in_ok-a.ensures.first c.in_ok-a.ensures.second c.in_ok-c.ensures.first c.in_ok-c.ensures.second c.tuple_of.ensures

pub returns-in_err-a-clause-own : goal.returns-in_err-a-clause-own
returns-in_err-a-clause-own c =
    own_more c.number_two.new.names (with_class_name (with_class_name c.args.names.now c.args.a.now) c.args.b.now) (c.args.c.now ∷ c.args.d.now ∷ []) c.in_err-a.ensures.own
