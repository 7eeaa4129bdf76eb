use Rattle.std.proofs.Common.{ap}
use Rattle.dt_graph.specs.Graph.{has_number}
use Rattle.dt_propagate.specs.Touched.{is_of_any, names_any}
use Rattle.dt_propagate.proofs.Touching.{touch_all, touched_are}
use Rattle.dt_propagate.proofs.touched.touched.Goals as goal

pub returns : goal.returns
returns c =
    let old = c.args.old.now in
    let new = c.args.new.now in
    let keys = c.args.keys.now in
    let moved = c.args.moved.now in
    touch_all old new keys moved c.touch_named.new.touched c.requires
    (λ n. touched_are (has_number c.new-touched.result n) (is_of_any keys n) (names_any old new moved n)
    (has_number c.touch.new.touched n) (has_number c.touch_named.new.touched n) (ap (λ ns. has_number ns n) c.new-touched.ensures)
    (c.touch.ensures n) (c.touch_named.ensures n))
