use Rattle.std.proofs.Common.{◌≡◌, length, sym, ◌∙◌}
use Rattle.dt_propagate.proofs.MarkSteps.{nothing_moved}
use Rattle.dt_propagate.proofs.marks.nears.Goals as goal

pub returns-clause-tell : goal.returns-clause-tell
returns-clause-tell c keys differ = (
  c.near_at.ensures keys differ,
  (c.near_at-2.ensures keys differ, (c.near_at-3.ensures keys differ, (c.near_at-4.ensures keys differ, tt))),
)

pub returns-then-len-eq0-clause-tell : goal.returns-then-len-eq0-clause-tell
returns-then-len-eq0-clause-tell c keys differ =
    let old = c.args.old.now in
    let new = c.args.new.now in
    let selector = c.args.selector in
    let moved = c.args.moved.now in
    let none : length moved ≡ 0 = sym c.len.ensures.value ∙ c.if-len-eq0.true in
    let first = c.unmarked in
    let second = c.unmarked-then-len-eq0 in
    let third = c.unmarked-then-len-eq0-2 in
    let last = c.unmarked-then-len-eq0-3 in (
      nothing_moved old new selector 0 keys moved first.result.marked first.result.above differ none first.ensures.marked,
      (
        nothing_moved old new selector 1 keys moved second.result.marked second.result.above differ none second.ensures.marked,
        (
          nothing_moved old new selector 2 keys moved third.result.marked third.result.above differ none third.ensures.marked,
          (nothing_moved old new selector 3 keys moved last.result.marked last.result.above differ none last.ensures.marked, tt),
        ),
      ),
    )
