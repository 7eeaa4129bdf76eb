use Rattle.std.proofs.Common.{refl, true, false}
use Rattle.dt_run.specs.Summary.{count_batches, count_told}
use Rattle.dt_run.specs.declared.print.figure.Told.TheVariants as told
use Rattle.dt_run.proofs.Tallying.{batches_few, is_exact, told_few}
use Rattle.dt_run.proofs.print.summary.number_of.Goals as goal

pub returns-in-Accepted : goal.returns-in-Accepted
returns-in-Accepted c = is_exact c.args.names.now c.args.log.now _ _ (count_batches true c.args.log.now) _ c.in-Accepted.is refl (batches_few true c.args.log.now c.requires) c.count_batches.ensures

pub returns-in-Refused : goal.returns-in-Refused
returns-in-Refused c = is_exact c.args.names.now c.args.log.now _ _ (count_batches false c.args.log.now) _ c.in-Refused.is refl (batches_few false c.args.log.now c.requires) c.count_batches-in-Refused.ensures

pub returns-in-Method : goal.returns-in-Method
returns-in-Method c = is_exact c.args.names.now c.args.log.now _ _ (count_told told.Method c.args.log.now) _ c.in-Method.is refl (told_few told.Method c.args.log.now c.requires) c.count_told.ensures

pub returns-in-Ambiguous : goal.returns-in-Ambiguous
returns-in-Ambiguous c = is_exact c.args.names.now c.args.log.now _ _ (count_told told.Ambiguous c.args.log.now) _ c.in-Ambiguous.is refl (told_few told.Ambiguous c.args.log.now c.requires) c.count_told-in-Ambiguous.ensures

pub returns-in-NotUnderstood : goal.returns-in-NotUnderstood
returns-in-NotUnderstood c = is_exact c.args.names.now c.args.log.now _ _ (count_told told.NotUnderstood c.args.log.now) _ c.in-NotUnderstood.is refl (told_few told.NotUnderstood c.args.log.now c.requires) c.count_told-in-NotUnderstood.ensures

pub returns-in-Other : goal.returns-in-Other
returns-in-Other c = is_exact c.args.names.now c.args.log.now _ _ (count_told told.Other c.args.log.now) _ c.in-Other.is refl (told_few told.Other c.args.log.now c.requires) c.count_told-in-Other.ensures
