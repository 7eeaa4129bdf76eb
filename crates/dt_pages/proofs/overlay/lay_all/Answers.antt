use Rattle.dt_pages.proofs.Laying.{lay_more, lay_start, first_within, listed}
use Rattle.std.proofs.Common.{◌∙◌, ap, sym, subst, ℕ, List}
use Rattle.std.specs.Map.{keys_of}
use Rattle.std.specs.List.Sorted.{IsStrictlySortedBy}
use Rattle.std.specs.Ordering.{nat_cmp}
use Rattle.std.specs.FinMap.{find}
use Rattle.std.proofs.lemmas.Map.Iter.{rest_more}
use Rattle.std.specs.Map.Iter.{deref_pair}
use Rattle.dt_pages.proofs.overlay.lay_all.Goals as goal

pub loop-at-init : goal.loop-at-init
loop-at-init c = (
  tt,
  tt,
  lay_start c.args.draft.now c.into_iter-at-iterator.result c.args.middles.now.items
      (listed c.draft.inside.words c.args.draft.now c.into_iter-at-iterator.result c.draft.view_is c.into_iter-at-iterator.ensures.into_iter_gives.0 c.draft.invariant)
      c.requires.count c.requires.rooms
      (subst (λ (es : List (ℕ × ℕ)). IsStrictlySortedBy nat_cmp (keys_of es)) (sym c.into_iter-at-iterator.ensures.into_iter_gives.0) c.into_iter-at-iterator.ensures.into_iter_gives.5),
)

pub lay-requires-clause-within : goal.lay-requires-clause-within
lay-requires-clause-within c = first_within c.in-Some.at.now c.in-Some.word.now c.next.new.self
    (λ q past. ap (find nat_cmp q) (sym (rest_more deref_pair c.loop-at.at-iterator c.next.new.self _ _ c.in-Some.is c.next.ensures.steps)) ∙ c.loop-at.invariant.2.within q past)

pub loop-at-preserved : goal.loop-at-preserved
loop-at-preserved c = (
  tt,
  tt,
  lay_more c.args.draft.now c.in-Some.at.now c.in-Some.word.now c.loop-at.at-iterator c.next.new.self c.args.middles.now.items
      c.loop-at.middles.items c.lay.new.middles.items
      (rest_more deref_pair _ _ _ _ c.in-Some.is c.next.ensures.steps)
      c.loop-at.invariant.2 c.lay.ensures.count c.lay.ensures.words c.lay.ensures.rooms,
)
