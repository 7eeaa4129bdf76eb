use Rattle.std.proofs.Common.{ap, ◌∙◌, arith, sym}
use Rattle.std.proofs.lemmas.List.{take_all}
use Rattle.dt_fit.specs.Bits.{are_free}
use Rattle.dt_fit.proofs.OpenPlaces.{free_of_none, free_so_far, not_free_at}
use Rattle.dt_fit.proofs.bits.are_free.Goals as goal

pub loop-index-init : goal.loop-index-init
loop-index-init c = free_of_none c.args.words.now c.args.step c.args.place c.args.indexes.now

pub loop-index-preserved : goal.loop-index-preserved
loop-index-preserved c =
    free_so_far c.args.words.now c.args.step c.args.place c.loop-index.index-index c.args.indexes.now
    c.loop-index-test.true c.loop-index.invariant (sym c.is_set.ensures ∙ c.if-is_set.false)

pub returns-then-is_set : goal.returns-then-is_set
returns-then-is_set c =
    not_free_at c.args.words.now c.args.step c.args.place c.loop-index.index-index c.args.indexes.now
    c.loop-index-test.true (sym c.is_set.ensures ∙ c.if-is_set.true)

pub returns : goal.returns
returns c =
    c.loop-index.invariant
    ∙ ap (λ indexes. are_free c.args.words.now c.args.step indexes c.args.place)
    (take_all c.loop-index.index-index c.args.indexes.now (omega (arith, c.loop-index-test.false)))
