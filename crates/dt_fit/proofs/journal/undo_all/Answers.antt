use Rattle.std.proofs.Common.{ap, sym, ◌∙◌}
use Rattle.std.proofs.lemmas.List.{length-set}
use Rattle.dt_fit.specs.Undoing.{undone}
use Rattle.dt_fit.proofs.Undo.{undone-last, within_left}
use Rattle.dt_fit.proofs.journal.undo_all.Goals as goal

pub loop-before-preserved : goal.loop-before-preserved
loop-before-preserved c = record {
  left = sym (undone-last c.pop.new.self.items c.in-Some.before c.loop-before.words.items)
      ∙ ap (λ journal. undone journal c.loop-before.words.items) (sym c.in-Some.ensures.items)
      ∙ c.loop-before.invariant.left;
  within = within_left c.loop-before.journal.items c.pop.new.self.items c.in-Some.before c.loop-before.words.items c.in-Some.before.at c.in-Some.before.word
      c.in-Some.ensures.items c.loop-before.invariant.within;
  count = length-set c.loop-before.words.items c.in-Some.before.at c.in-Some.before.word ∙ c.loop-before.invariant.count;
}
