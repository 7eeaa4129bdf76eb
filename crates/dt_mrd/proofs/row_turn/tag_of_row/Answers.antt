use Rattle.std.proofs.Common.{sym, ◌∙◌}
use Rattle.dt_fit.specs.Cells.{is_tried}
use Rattle.dt_mrd.proofs.Choosing.{moves_chosen, stays_chosen, stays_room}
use Rattle.dt_mrd.proofs.row_turn.tag_of_row.Goals as goal

pub returns-then-may_stay-clause-chosen : goal.returns-then-may_stay-clause-chosen
returns-then-may_stay-clause-chosen c =
    stays_chosen (is_tried c.args.cells.now) (is_tried c.args.taken.now) c.args.indexes.now c.args.before (sym c.may_stay.ensures ∙ c.if-may_stay.true)

pub returns-else-may_stay-clause-chosen : goal.returns-else-may_stay-clause-chosen
returns-else-may_stay-clause-chosen c =
    moves_chosen (is_tried c.args.cells.now) (is_tried c.args.taken.now) c.args.indexes.now c.args.before c.lowest_tag.result (sym c.may_stay.ensures ∙ c.if-may_stay.false) c.lowest_tag.ensures.lowest

pub returns-then-may_stay-clause-room : goal.returns-then-may_stay-clause-room
returns-then-may_stay-clause-room c =
    stays_room (is_tried c.args.cells.now) c.args.indexes.now c.args.before (sym c.may_stay.ensures ∙ c.if-may_stay.true) c.requires.before
