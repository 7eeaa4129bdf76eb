use Rattle.std.proofs.Common.{◌<◌, All, sym, subst, ◌∙◌, arith}
use Rattle.dt_fit.specs.Cells.{is_tried}
use Rattle.dt_placing.proofs.InRow.{used_are_indexes}
use Rattle.dt_placing.proofs.choosing.choose_word.Goals as goal

pub word_of_row-requires-clause-indexes : goal.word_of_row-requires-clause-indexes
word_of_row-requires-clause-indexes c = subst (All (λ index. index < 2048)) (sym (c.deref.ensures.value ∙ c.in_ok-indexes.ensures))
    (used_are_indexes c.args.row.now 2048 (omega arith))

pub word_of_row-requires-clause-rows : goal.word_of_row-requires-clause-rows
word_of_row-requires-clause-rows c =
    let o = c.requires.others in (o.rows, o.few, o.are_rows, o.cells (is_tried c.free_row.new.cells) c.in_ok-free_row.ensures.tried)
