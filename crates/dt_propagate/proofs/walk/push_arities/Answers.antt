use Rattle.std.proofs.Common.{◌≡◌, ℕ, ◌+◌, ◌-◌, List, [], ◌++◌, ap, ◌∙◌, arith}
use Rattle.dt_scratch.specs.declared.reply.Change.{Change}
use Rattle.dt_propagate.specs.Boxes.{in_turn}
use Rattle.dt_propagate.specs.GoneThrough.{told_after}
use Rattle.dt_propagate.specs.Walk.{told_change}
use Rattle.dt_propagate.proofs.Counted.{counts_further}
use Rattle.dt_propagate.proofs.Touching.{turned, arities_are}
use Rattle.dt_propagate.proofs.walk.push_arities.Goals as goal

pub loop-arity-preserved : goal.loop-arity-preserved
loop-arity-preserved g c =
    let f : ℕ → List Change = λ k. told_after (told_change c.args.old.now c.args.new.now) c.args.selector k [] in
    let arity = c.loop-arity.arity in
    let low = c.loop-arity.auto.arity in
    record {
      told = turned f 1 (arity - 1) (arity + 1 - 1) arity c.args.out.now.changes.items c.loop-arity.out.changes.items c.push_with_arity.new.out.changes.items
          (omega (arith, low)) (omega (arith, low)) c.loop-arity.invariant.told c.in_ok-push_with_arity.ensures.told;
      counted = counts_further c.args.steps.now c.loop-arity.steps c.push_with_arity.new.steps c.args.out.now.counted c.loop-arity.out.counted c.push_with_arity.new.out.counted
          c.loop-arity.invariant.counted c.in_ok-push_with_arity.ensures.counted;
    }

pub returns : goal.returns
returns g c =
    let f : ℕ → List Change = λ k. told_after (told_change c.args.old.now c.args.new.now) c.args.selector k [] in
    let arity = c.loop-arity.arity in
    let all : arity - 1 ≡ 4 = omega (arith, c.loop-arity-test.false, c.loop-arity.auto.arity-end, c.loop-arity.auto.arity) in
    record { grows = c.loop-arity.invariant.counted.grows; counted = c.loop-arity.invariant.counted; told = c.loop-arity.invariant.told ∙ ap (λ numbers. c.args.out.now.changes.items ++ in_turn f numbers) (arities_are (arity - 1) all) }
