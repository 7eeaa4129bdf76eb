use Rattle.dt_pages.proofs.Adopting.{renumbering_start, renumbering_low, renumbering_more}
use Rattle.std.proofs.Common.{sym, subst, ℕ, List}
use Rattle.std.specs.Map.{keys_of}
use Rattle.std.specs.List.Sorted.{IsStrictlySortedBy}
use Rattle.std.specs.Ordering.{nat_cmp}
use Rattle.std.proofs.lemmas.Map.Iter.{rest_more}
use Rattle.std.specs.Map.Iter.{deref_pair}
use Rattle.dt_pages.proofs.paged.set_all.Goals as goal

pub loop-at-init : goal.loop-at-init
loop-at-init c = (
  tt,
  tt,
  renumbering_start c.changes.inside.values c.args.changes.now c.into_iter-at-iterator.result c.args.numbers.now.items
      c.changes.view_is c.into_iter-at-iterator.ensures.into_iter_gives.0
      (subst (λ (es : List (ℕ × ℕ)). IsStrictlySortedBy nat_cmp (keys_of es)) (sym c.into_iter-at-iterator.ensures.into_iter_gives.0) c.into_iter-at-iterator.ensures.into_iter_gives.5)
      c.requires.count c.requires.in_range,
)

pub set_number-requires-clause-in_range : goal.set_number-requires-clause-in_range
set_number-requires-clause-in_range c = renumbering_low c.args.changes.now c.in-Some.at.now c.in-Some.number.now c.loop-at.at-iterator c.next.new.self
    c.args.numbers.now.items c.loop-at.numbers.items (rest_more deref_pair _ _ _ _ c.in-Some.is c.next.ensures.steps) c.loop-at.invariant.2

pub loop-at-preserved : goal.loop-at-preserved
loop-at-preserved c = (
  tt,
  tt,
  renumbering_more c.args.changes.now c.in-Some.at.now c.in-Some.number.now c.loop-at.at-iterator c.next.new.self c.args.numbers.now.items
      c.loop-at.numbers.items c.set_number.new.numbers.items (rest_more deref_pair _ _ _ _ c.in-Some.is c.next.ensures.steps)
      c.loop-at.invariant.2 c.set_number.ensures.count c.set_number.ensures.numbers,
)
