use Rattle.std.proofs.Common.{◌≡◌, drop}
use Rattle.std.specs.List.{list_all}
use Rattle.dt_pages.specs.Image.{look_up}
use Rattle.dt_fit.specs.Cells.{is_tried}
use Rattle.dt_placing.specs.Staying.{is_open}
use Rattle.dt_placing.proofs.staying.can_stay.Given as goal

abbrev pub invariant-loop-change : goal.invariant-loop-change
invariant-loop-change l = list_all (is_open l.geometry (look_up l.tree) l.selector l.before (is_tried l.cells)) (drop l.change-index l.own)
    ≡ list_all (is_open l.geometry (look_up l.tree) l.selector l.before (is_tried l.cells)) l.own
