use Rattle.dt_pages.proofs.Adopting.{laying_start, laying_room, laying_more}
use Rattle.std.proofs.Common.{sym, subst, ℕ, List}
use Rattle.std.specs.Map.{keys_of}
use Rattle.std.specs.List.Sorted.{IsStrictlySortedBy}
use Rattle.std.specs.Ordering.{nat_cmp}
use Rattle.std.proofs.lemmas.Map.Iter.{rest_more}
use Rattle.std.specs.Map.Iter.{deref_pair}
use Rattle.dt_pages.proofs.overlay.lay_changes.Goals as goal

pub loop-at-init : goal.loop-at-init
loop-at-init c = (
  tt,
  tt,
  laying_start c.changes.inside.values c.args.changes.now c.into_iter-at-iterator.result c.args.middles.now.items c.args.rooms.now.items
      c.changes.view_is c.into_iter-at-iterator.ensures.into_iter_gives.0
      (subst (λ (es : List (ℕ × ℕ)). IsStrictlySortedBy nat_cmp (keys_of es)) (sym c.into_iter-at-iterator.ensures.into_iter_gives.0) c.into_iter-at-iterator.ensures.into_iter_gives.5)
      c.requires.count c.requires.rooms,
)

pub lay_one-requires-clause-room : goal.lay_one-requires-clause-room
lay_one-requires-clause-room c = laying_room c.args.changes.now c.in-Some.at.now c.in-Some.word.now c.loop-at.at-iterator c.next.new.self c.args.middles.now.items
    c.loop-at.middles.items c.loop-at.rooms.items (rest_more deref_pair _ _ _ _ c.in-Some.is c.next.ensures.steps) c.loop-at.invariant.2

pub loop-at-preserved : goal.loop-at-preserved
loop-at-preserved c = (
  tt,
  tt,
  laying_more c.args.changes.now c.in-Some.at.now c.in-Some.word.now c.loop-at.at-iterator c.next.new.self c.args.middles.now.items
      c.loop-at.middles.items c.loop-at.rooms.items c.lay_one.new.middles.items c.lay_one.new.rooms.items
      (rest_more deref_pair _ _ _ _ c.in-Some.is c.next.ensures.steps)
      c.loop-at.invariant.2 c.lay_one.ensures.count c.lay_one.ensures.rooms_count c.lay_one.ensures.zeros c.lay_one.ensures.words c.lay_one.ensures.either,
)
