use Rattle.std.proofs.Common.{◌∷◌, [], codes}
use Rattle.dt_script.specs.Word.{Body}
use Rattle.dt_script.specs.Writing.{word_text}
use Rattle.dt_run.specs.declared.print.words.Keyword.TheVariants.{Method}
use Rattle.dt_run.specs.declared.print.words.LogWord.TheVariants.{Keyword, Number}
use Rattle.dt_run.proofs.Putting.{line_by_name, line_stopped}
use Rattle.dt_run.proofs.print.call_line.put_method.Goals as goal

pub returns : goal.returns
returns g c =
    line_by_name _ _ _ _ (codes "call") (Number c.args.caller ∷ Number c.args.version ∷ Keyword Method ∷ []) (word_text c.args.names.now (Body c.args.body))
    (rw c.from.ensures at c.in_ok-put_head.ensures) (rw c.name_of_body.ensures at c.put_last.ensures)

pub returns-in_err-put_head : goal.returns-in_err-put_head
returns-in_err-put_head g c =
    line_stopped _ _ _ (codes "call") (Number c.args.caller ∷ Number c.args.version ∷ Keyword Method ∷ []) (word_text c.args.names.now (Body c.args.body) ∷ [])
    c.from_residual.ensures.0 (rw c.from.ensures at c.in_err-put_head.ensures)
