use Rattle.std.proofs.Common.{◌≡◌, false, [], replicate}
use Rattle.dt_graph.proofs.class_rows.ClassRows.new.Given as goal

abbrev pub invariant-loop-class : goal.invariant-loop-class
invariant-loop-class l =
    l.rows.items ≡ replicate l._class (record { is_live = false; parents = record { items = [] } })
