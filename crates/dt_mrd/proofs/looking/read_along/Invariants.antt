use Rattle.std.proofs.Common.{◌≡◌, ◌≤◌, ◌+◌, ◌*◌, drop}
use Rattle.dt_pages.specs.Image.{look_up}
use Rattle.dt_mrd.specs.Reading.{code_along}
use Rattle.dt_mrd.proofs.looking.read_along.Given as goal

abbrev pub invariant-loop-class : goal.invariant-loop-class
invariant-loop-class g l = record {
  value : code_along (look_up (g.W.Words.image l.initial.words)) l.first l.classes
      ≡ code_along (look_up (g.W.Words.image l.initial.words)) l.code (drop l.class-index l.classes);
  image : g.W.Words.image l.words ≡ g.W.Words.image l.initial.words;
  cost : g.W.Words.cost l.words ≤ g.W.Words.cost l.initial.words + l.class-index * g.W.Words.COST;
  kept : g.W.Words.kept l.initial.words l.words;
}
