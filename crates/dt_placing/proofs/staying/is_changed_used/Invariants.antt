use Rattle.std.proofs.Common.{◌≡◌, drop}
use Rattle.std.specs.List.{list_any}
use Rattle.dt_fit.specs.Cells.{is_tried}
use Rattle.dt_placing.specs.Turn.{number_at}
use Rattle.dt_placing.specs.Staying.{class_of}
use Rattle.dt_placing.proofs.staying.is_changed_used.Given as goal

abbrev pub invariant-loop-change : goal.invariant-loop-change
invariant-loop-change l = list_any (λ change. is_tried l.cells (number_at l.geometry l.before (class_of change))) (drop l.change-index l.own)
    ≡ list_any (λ change. is_tried l.cells (number_at l.geometry l.before (class_of change))) l.own
