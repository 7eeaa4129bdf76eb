use Rattle.std.proofs.Common.{◌+◌, ◌/◌, ◌^◌, ◌<◌, get_or, arith, rules}
use Rattle.dt_selectors.specs.declared.limits.TheConstants.{SELECTORS}
use Rattle.dt_graph.proofs.FirstClass.{IsLookedAt-first, IsLookedAt-more, none_left, none_past, found, found_inside}
use Rattle.dt_propagate.proofs.selector_set.SelectorSet.first_from.Goals as goal

pub returns-then-place-ge-WORDS : goal.returns-then-place-ge-WORDS
returns-then-place-ge-WORDS c =
    none_past SELECTORS c.self.inside.words c.args.self.now c.args.least c.self.view_is (omega (arith, c.self.told)) (omega (arith, c.if-place-ge-WORDS.true))

pub loop-word-init : goal.loop-word-init
loop-word-init c =
    let fits : get_or c.self.inside.words (c.args.least / 64) 0 < 2 ^ 64 = search rules in
    IsLookedAt-first c.self.inside.words c.args.least (omega (arith, c.self.told, c.if-place-ge-WORDS.false)) fits

pub returns-then-place-eq-WORDS : goal.returns-then-place-eq-WORDS
returns-then-place-eq-WORDS c =
    none_left SELECTORS c.self.inside.words c.args.self.now c.args.least c.loop-word.place c.loop-word.word c.self.view_is (omega (arith, c.self.told))
    c.loop-word.invariant c.loop-word-test.true (omega (arith, c.self.told, c.if-place-eq-WORDS.true))

pub loop-word-preserved : goal.loop-word-preserved
loop-word-preserved c =
    let fits : get_or c.self.inside.words (c.loop-word.place + 1) 0 < 2 ^ 64 = search rules in
    IsLookedAt-more c.self.inside.words c.args.least c.loop-word.place c.loop-word.word c.loop-word.invariant c.loop-word-test.true
    (omega (arith, c.self.told, c.if-place-eq-WORDS.false, c.loop-word.invariant.inside)) fits

pub overflow_cast-number-2 : goal.overflow_cast-number-2
overflow_cast-number-2 c =
    let inside = found_inside c.self.inside.words c.args.least c.loop-word.place c.loop-word.word c.loop-word.invariant (omega (arith, c.loop-word-test.false)) in
    omega (arith, c.self.told)

pub returns : goal.returns
returns c =
    found SELECTORS c.self.inside.words c.args.self.now c.args.least c.loop-word.place c.loop-word.word c.in-Some.selector c.self.view_is (omega (arith, c.self.told))
    c.loop-word.invariant (omega (arith, c.loop-word-test.false)) c.in-Some.ensures.1
