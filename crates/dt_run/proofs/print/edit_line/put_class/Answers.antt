use Rattle.std.proofs.Common.{[], ◌∷◌, ◌++◌}
use Rattle.dt_script.specs.Word.{Class}
use Rattle.dt_script.specs.Writing.{word_text}
use Rattle.dt_run.proofs.Putting.{then_more, stopped}
use Rattle.dt_run.proofs.print.edit_line.put_class.Goals as goal

pub returns : goal.returns
returns g c =
    then_more _ _ _ _ (32 ∷ c.args.word.now) (32 ∷ word_text c.args.names.now (Class c.args.class) ++ 10 ∷ []) c.in_ok-put_spaced.ensures (rw c.name_of_class.ensures at c.put_last.ensures)

pub returns-in_err-put_spaced : goal.returns-in_err-put_spaced
returns-in_err-put_spaced g c = stopped _ _ _ (32 ∷ c.args.word.now) (32 ∷ word_text c.args.names.now (Class c.args.class) ++ 10 ∷ []) c.from_residual.ensures.0 c.in_err-put_spaced.ensures
