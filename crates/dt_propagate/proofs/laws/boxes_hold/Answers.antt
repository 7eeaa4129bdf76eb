use Rattle.dt_propagate.proofs.Boxes.{boxes_hold_exactly, boxes_ascend}
use Rattle.dt_propagate.proofs.BoxSizes.{boxes_hold_no_more}
use Rattle.dt_propagate.proofs.laws.boxes_hold.Goals as goal

pub returns : goal.returns
returns c = record {
  exactly = boxes_hold_exactly;
  ascend = boxes_ascend;
  no_more = boxes_hold_no_more;
}
