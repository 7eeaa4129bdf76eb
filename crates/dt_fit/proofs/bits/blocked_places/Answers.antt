use Rattle.std.proofs.Common.{◌==◌, ◌+◌, ◌||◌, not, ap, ◌∙◌, arith}
use Rattle.std.proofs.lemmas.List.{take_all}
use Rattle.std.specs.Int.{bit_at}
use Rattle.dt_fit.specs.Bits.{are_free}
use Rattle.dt_fit.proofs.OpenPlaces.{marked_none, marked_more, marked_full}
use Rattle.dt_fit.proofs.bits.blocked_places.Goals as goal

pub loop-index-init : goal.loop-index-init
loop-index-init c = marked_none c.args.words.now c.args.step c.args.first c.args.start c.args.indexes.now

pub loop-index-preserved : goal.loop-index-preserved
loop-index-preserved c =
    marked_more c.args.words.now c.args.step c.args.first c.loop-index.index-index c.args.start c.loop-index.blocked c.window-blocked.result c.args.indexes.now
    c.loop-index-test.true c.loop-index.invariant c.window-blocked.ensures

pub returns-then-blocked : goal.returns-then-blocked
returns-then-blocked c =
    marked_full c.args.words.now c.args.step c.args.first c.loop-index.index-index c.args.start c.loop-index.blocked c.args.indexes.now
    c.if-blocked.true c.loop-index.invariant

pub returns : goal.returns
returns c = λ j small.
    c.loop-index.invariant j small
    ∙ ap (λ indexes. (bit_at c.args.start j == 1) || not (are_free c.args.words.now c.args.step indexes (c.args.first + j)))
    (take_all c.loop-index.index-index c.args.indexes.now (omega (arith, c.loop-index-test.false)))
