use Rattle.std.proofs.Common.{ℕ, ◌+◌, List, ◌++◌, append-nil, refl, sym, ap, ◌∙◌, arith}
use Rattle.dt_scratch.specs.declared.reply.Change.{Change}
use Rattle.dt_selectors.specs.declared.limits.TheConstants.{SELECTORS}
use Rattle.dt_graph.proofs.AscendingSets.{first_bounds}
use Rattle.dt_propagate.specs.Boxes.{in_turn}
use Rattle.dt_propagate.specs.GoneThrough.{all_arities, told_of}
use Rattle.dt_propagate.specs.Walk.{told_change}
use Rattle.dt_propagate.proofs.Counted.{counts_further, counts_none}
use Rattle.dt_propagate.proofs.Touching.{selectors_are}
use Rattle.dt_propagate.proofs.TouchedTurns.{next_told, rest_told}
use Rattle.dt_propagate.proofs.walk.push_all.Goals as goal

pub loop-selector-init : goal.loop-selector-init
loop-selector-init g c = record {
  low = omega arith;
  told = sym (append-nil c.args.out.now.changes.items);
  counted = counts_none c.args.steps.now c.args.out.now.counted c.law.ensures;
}

pub loop-selector-preserved : goal.loop-selector-preserved
loop-selector-preserved g c =
    let f : ℕ → List Change = told_of (told_change c.args.old.now c.args.new.now) all_arities in
    let found = sym c.first_from.ensures ∙ c.in-Some.is in
    let bounds = first_bounds c.args.touched.now c.loop-selector.least c.in-Some.selector SELECTORS c.law-2.ensures.ascend c.law-2.ensures.in_range found in
    record {
      low = omega (arith, c.number.ensures.value, bounds.1);
      told = next_told f c.args.touched.now c.law-2.ensures.ascend c.requires.touched c.loop-selector.least c.in-Some.selector c.number.result (c.number.result + 1)
          c.args.out.now.changes.items c.loop-selector.out.changes.items c.push_of.new.out.changes.items found c.number.ensures.value refl
          c.loop-selector.invariant.told c.in_ok-push_of.ensures.told;
      counted = counts_further c.args.steps.now c.loop-selector.steps c.push_of.new.steps c.args.out.now.counted c.loop-selector.out.counted c.push_of.new.out.counted
          c.loop-selector.invariant.counted c.in_ok-push_of.ensures.counted;
    }

pub loop-selector-smaller : goal.loop-selector-smaller
loop-selector-smaller g c =
    let found = sym c.first_from.ensures ∙ c.in-Some.is in
    let bounds = first_bounds c.args.touched.now c.loop-selector.least c.in-Some.selector SELECTORS c.law-2.ensures.ascend c.law-2.ensures.in_range found in
    omega (arith, c.number.ensures.value, bounds.0, bounds.1)

pub returns : goal.returns
returns g c =
    let f : ℕ → List Change = told_of (told_change c.args.old.now c.args.new.now) all_arities in
    record {
      grows = c.loop-selector.invariant.counted.grows;
      counted = c.loop-selector.invariant.counted;
      told = rest_told f c.args.touched.now c.law-2.ensures.ascend c.requires.touched c.loop-selector.least SELECTORS c.args.out.now.changes.items
          c.loop-selector.out.changes.items (sym c.first_from.ensures ∙ c.in_default.is) c.loop-selector.invariant.low c.loop-selector.invariant.told
          ∙ ap (λ numbers. c.args.out.now.changes.items ++ in_turn f numbers) (selectors_are SELECTORS refl);
    }
