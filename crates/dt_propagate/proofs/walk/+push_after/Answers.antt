use Rattle.std.proofs.Common.{ℕ, ◌+◌, ◌-◌, List, [], ◌∷◌, ◌++◌, length, take, refl, sym, ap, ◌∙◌, arith, rules}
use Rattle.dt_scratch.specs.declared.reply.Change.{Change}
use Rattle.dt_graph.specs.declared.limits.TheConstants.{CLASSES}
use Rattle.dt_graph.proofs.AscendingSets.{first_bounds}
use Rattle.dt_propagate.specs.GoneThrough.{told_after}
use Rattle.dt_propagate.specs.Walk.{goes_next, told_change}
use Rattle.dt_propagate.proofs.Counted.{counts_further}
use Rattle.dt_propagate.proofs.WalkedSets.{turns_begun, turns_more, turns_all}
use Rattle.dt_propagate.proofs.WalkSteps.{more_told, nothing_told, take_pushed}
use Rattle.dt_propagate.proofs.walk.+push_after.Goals as goal

pub loop-class-init : goal.loop-class-init
loop-class-init g t c =
    let f : ℕ → List Change = λ d. told_after (told_change c.args.old.now c.args.new.now) c.args.selector (c.args.more - 1) (c.args.prefix.now.items ++ d ∷ []) in
    record {
      low = omega arith;
      prefix = refl;
      told = turns_begun f c.next_classes-next.result c.args.out.now.changes.items;
      counted = search rules;
    }

pub loop-class-preserved : goal.loop-class-preserved
loop-class-preserved g t c =
    let f : ℕ → List Change = λ d. told_after (told_change c.args.old.now c.args.new.now) c.args.selector (c.args.more - 1) (c.args.prefix.now.items ++ d ∷ []) in
    let next = c.next_classes-next.result in
    let found = sym c.first_from.ensures ∙ c.in-Some.is in
    let bounds = first_bounds next c.loop-class.least c.in-Some.class CLASSES c.law.ensures.ascend c.law.ensures.in_range found in
    let prefix = c.push.ensures.items ∙ ap (λ classes. classes ++ c.in-Some.class ∷ []) c.loop-class.invariant.prefix in
    record {
      low = omega (arith, c.number.ensures.value, bounds.1);
      prefix = c.pop.ensures.rest ∙ ap (λ classes. take (length classes - 1) classes) (c.in_ok-push_after.ensures.prefix ∙ prefix)
          ∙ take_pushed c.args.prefix.now.items c.in-Some.class;
      told = turns_more f next c.loop-class.least c.in-Some.class (c.number.result + 1) c.args.out.now.changes.items c.loop-class.out.changes.items
          c.push_after.new.out.changes.items c.law.ensures.ascend found (ap (λ n. n + 1) c.number.ensures.value) c.loop-class.invariant.told
          (c.in_ok-push_after.ensures.told
          ∙ ap (λ classes. c.loop-class.out.changes.items ++ told_after (told_change c.args.old.now c.args.new.now) c.args.selector (c.args.more - 1) classes) prefix);
      counted = counts_further c.args.steps.now c.loop-class.steps c.push_after.new.steps c.args.out.now.counted c.loop-class.out.counted c.push_after.new.out.counted
          c.loop-class.invariant.counted c.in_ok-push_after.ensures.counted;
    }

pub loop-class-smaller : goal.loop-class-smaller
loop-class-smaller g t c =
    let found = sym c.first_from.ensures ∙ c.in-Some.is in
    let bounds = first_bounds c.next_classes-next.result c.loop-class.least c.in-Some.class CLASSES c.law.ensures.ascend c.law.ensures.in_range found in
    omega (arith, c.number.ensures.value, bounds.0, bounds.1)

pub returns-clause-told : goal.returns-clause-told
returns-clause-told g t c =
    let old = c.args.old.now in
    let new = c.args.new.now in
    let selector = c.args.selector in
    let keys = c.args.keys.now in
    let nears = c.args.nears.now in
    let prefix = c.args.prefix.now.items in
    let next = c.next_classes-next.result in
    let f : ℕ → List Change = λ d. told_after (told_change old new) selector (c.args.more - 1) (prefix ++ d ∷ []) in
    let whole = more_told (told_change old new) selector c.args.more prefix next c.law.ensures.ascend c.law.ensures.below_limit
    (λ class low not. nothing_told old new selector keys nears c.requires.all (c.args.more - 1) prefix class
    (ap (λ p. goes_next old new selector keys nears p class) (sym c.deref-2.ensures.0) ∙ sym (c.next_classes-next.ensures class) ∙ not))
    c.if-more-eq0.false in
    turns_all f next c.loop-class.least c.args.out.now.changes.items c.loop-class.out.changes.items (sym c.first_from.ensures ∙ c.in_default.is)
    c.loop-class.invariant.told
    ∙ ap (λ xs. c.args.out.now.changes.items ++ xs) (sym whole)
