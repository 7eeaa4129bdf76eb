use Rattle.dt_pages.proofs.Laying.{reserve_more, reserve_start, listed}
use Rattle.std.proofs.Common.{◌∙◌}
use Rattle.std.proofs.lemmas.Map.Iter.{rest_more}
use Rattle.std.specs.Map.Iter.{deref_pair}
use Rattle.dt_pages.proofs.overlay.make_rooms.Goals as goal

pub loop-at-init : goal.loop-at-init
loop-at-init c = (
  tt,
  tt,
  reserve_start c.args.draft.now c.into_iter-at-iterator.result c.args.middles.now.items
      (listed c.draft.inside.words c.args.draft.now c.into_iter-at-iterator.result c.draft.view_is c.into_iter-at-iterator.ensures.into_iter_gives.0 c.draft.invariant)
      c.requires,
)

pub loop-at-preserved : goal.loop-at-preserved
loop-at-preserved c = (
  tt,
  tt,
  reserve_more c.args.draft.now c.in-Some.at.now c.in-Some._word.now c.loop-at.at-iterator c.next.new.self c.args.middles.now.items
      c.loop-at.middles.items c.make_leaf.new.middles.items
      (rest_more deref_pair _ _ _ _ c.in-Some.is c.next.ensures.steps)
      c.loop-at.invariant.2 c.in_ok-make_leaf.ensures.count
      (λ q. c.in_ok-make_leaf.ensures.words q ∙ c.in_ok-make_middle.ensures.words q)
      (λ q there. c.in_ok-make_leaf.ensures.others q (c.in_ok-make_middle.ensures.others q there))
      c.in_ok-make_leaf.ensures.room,
)
