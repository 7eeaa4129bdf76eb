use Rattle.std.proofs.Common.{sym, ◌∙◌}
use Rattle.dt_propagate.proofs.MarkSteps.{near_tells, nothing_seen, none_seen}
use Rattle.dt_propagate.proofs.marks.near_at.Goals as goal

pub returns : goal.returns
returns c keys differ =
    let old = c.args.old.now in
    let new = c.args.new.now in
    let changed_is = rw (c.graph.ensures, c.graph-2.ensures) at c.changed-changed.ensures in
    let marked_is = rw c.graph-3.ensures at c.marked-marked.ensures in
    near_tells old new c.args.selector c.args.position keys c.args.moved.now c.named_at-named.result c.intersection-seen.result
    c.changed-changed.result c.intersection.result c.marked-marked.result c.above_marked-above.result differ
    c.named_at-named.ensures c.intersection-seen.ensures changed_is c.intersection.ensures marked_is c.above_marked-above.ensures

pub returns-then-len-eq0 : goal.returns-then-len-eq0
returns-then-len-eq0 c keys differ =
    let old = c.args.old.now in
    let new = c.args.new.now in
    let near = c.unmarked.result in
    nothing_seen old new c.args.selector c.args.position keys c.args.moved.now near.marked near.above differ
    (none_seen old new c.args.selector c.args.position c.args.moved.now c.named_at-named.result c.intersection-seen.result
    c.named_at-named.ensures c.intersection-seen.ensures (sym c.len.ensures.value ∙ c.if-len-eq0.true))
    c.unmarked.ensures.marked
