use Rattle.std.proofs.Common.{◌∙◌, ap, false, [], refl, arith}
use Rattle.dt_graph.specs.GraphRows.{graph_of}
use Rattle.dt_graph.specs.declared.class_rows.Row.{Row}
use Rattle.dt_graph.proofs.Rows.{graph_of-replicate}
use Rattle.dt_graph.proofs.LawfulChanges.{LawfulRows-replicate}
use Rattle.dt_graph.proofs.class_rows.ClassRows.new.Goals as goal

pub invariant_of-result : goal.invariant_of-result
invariant_of-result c =
    let row : Row = record { is_live = false; parents = record { items = [] } } in
    LawfulRows-replicate c.loop-class.rows.items c.loop-class._class row c.loop-class.invariant (omega arith) refl refl

pub returns : goal.returns
returns c =
    let row : Row = record { is_live = false; parents = record { items = [] } } in
    ap graph_of c.loop-class.invariant ∙ graph_of-replicate c.loop-class._class row refl refl
