use Rattle.std.proofs.Common.{◌∙◌, ap, sym, subst, ℕ, List, ◌++◌, arith}
use Rattle.std.specs.Map.{keys_of}
use Rattle.std.specs.List.Sorted.{IsStrictlySortedBy}
use Rattle.std.specs.Ordering.{nat_cmp}
use Rattle.std.specs.FinMap.{find}
use Rattle.std.proofs.lemmas.Map.Iter.{rest_more}
use Rattle.std.specs.Map.Iter.{deref_pair}
use Rattle.dt_pages.specs.Paged.{numbering}
use Rattle.dt_pages.specs.Drawing.{leaves_of}
use Rattle.dt_pages.proofs.Laying.{listed, first_within, within_rest}
use Rattle.dt_pages.proofs.DrawnNodes.{leaves_skip, pushed}
use Rattle.dt_pages.proofs.Entries.{all_entries}
use Rattle.dt_pages.proofs.paged.PagedTree.leaves_of_words.Goals as goal

pub loop-at-init : goal.loop-at-init
loop-at-init c =
    let is = listed c.draft.inside.words c.args.draft.now c.into_iter-at-iterator.result c.draft.view_is c.into_iter-at-iterator.ensures.into_iter_gives.0 c.draft.invariant in
    let sorted = subst (λ (es : List (ℕ × ℕ)). IsStrictlySortedBy nat_cmp (keys_of es)) (sym c.into_iter-at-iterator.ensures.into_iter_gives.0) c.into_iter-at-iterator.ensures.into_iter_gives.5 in
    let all = all_entries c.draft.inside.words c.args.draft.now c.into_iter-at-iterator.result c.draft.view_is c.into_iter-at-iterator.ensures.into_iter_gives.0 sorted in (
      tt,
      tt,
      ap (λ ls. ls ++ leaves_of (numbering c.args.self.now) c.into_iter-at-iterator.result) c.new-leaves.ensures.items
          ∙ ap (leaves_of (numbering c.args.self.now)) all,
      (λ q past. is.found q ∙ is.within q past),
    )

pub number-requires : goal.number-requires
number-requires c =
    let below = first_within c.in-Some.at.now c.in-Some.word.now c.next.new.self
    (λ q past. ap (find nat_cmp q) (sym (rest_more deref_pair c.loop-at.at-iterator c.next.new.self _ _ c.in-Some.is c.next.ensures.steps)) ∙ c.loop-at.invariant.3 q past) in
    omega (arith, below)

pub loop-at-preserved-in-Continue-1 : goal.loop-at-preserved-in-Continue-1
loop-at-preserved-in-Continue-1 c =
    let first = rest_more deref_pair c.loop-at.at-iterator c.next.new.self _ _ c.in-Some.is c.next.ensures.steps in (
      tt,
      tt,
      pushed (numbering c.args.self.now) c.in-Some.at.now c.in-Some.word.now c.loop-at.at-iterator c.next.new.self c.loop-at.leaves.items
          c.push.new.self.items _ first (λ same. c.if-number-word.true (c.number.ensures ∙ same)) c.in_ok-push.ensures.items c.loop-at.invariant.2,
      within_rest c.in-Some.at.now c.in-Some.word.now c.next.new.self (λ q past. ap (find nat_cmp q) (sym first) ∙ c.loop-at.invariant.3 q past),
    )

pub loop-at-preserved : goal.loop-at-preserved
loop-at-preserved c =
    let first = rest_more deref_pair c.loop-at.at-iterator c.next.new.self _ _ c.in-Some.is c.next.ensures.steps in (
      tt,
      tt,
      ap (λ ls. c.loop-at.leaves.items ++ ls)
          (sym (leaves_skip (numbering c.args.self.now) c.in-Some.at.now c.in-Some.word.now c.loop-at.at-iterator c.next.new.self first
          (sym c.number.ensures ∙ c.if-number-word.false)))
          ∙ c.loop-at.invariant.2,
      within_rest c.in-Some.at.now c.in-Some.word.now c.next.new.self (λ q past. ap (find nat_cmp q) (sym first) ∙ c.loop-at.invariant.3 q past),
    )
