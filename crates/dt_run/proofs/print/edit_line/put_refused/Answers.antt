use Rattle.std.proofs.Common.{◌∷◌, [], codes, map}
use Rattle.dt_definitions.specs.RefusalWords.{number_of}
use Rattle.dt_script.specs.Writing.{word_text}
use Rattle.dt_run.specs.Text.{words_of_why}
use Rattle.dt_run.specs.declared.print.words.Keyword.TheVariants.{Refused}
use Rattle.dt_run.specs.declared.print.words.LogWord.TheVariants.{Keyword, Number}
use Rattle.dt_run.proofs.Putting.{line_by_parts, line_stopped}
use Rattle.dt_run.proofs.print.edit_line.put_refused.Goals as goal

pub returns : goal.returns
returns g c =
    line_by_parts _ _ _ _ (codes "edit") (Keyword Refused ∷ Number c.args.at ∷ Number (number_of c.args.why) ∷ []) (map (word_text c.args.names.now) (words_of_why c.args.why))
    (rw (c.from.ensures, c.from-2.ensures, c.number.ensures) at c.in_ok-put_head.ensures) c.put_why.ensures

pub returns-in_err-put_head : goal.returns-in_err-put_head
returns-in_err-put_head g c =
    line_stopped _ _ _ (codes "edit") (Keyword Refused ∷ Number c.args.at ∷ Number (number_of c.args.why) ∷ []) (map (word_text c.args.names.now) (words_of_why c.args.why))
    c.from_residual.ensures.0 (rw (c.from.ensures, c.from-2.ensures, c.number.ensures) at c.in_err-put_head.ensures)
