use Rattle.std.proofs.Common.{◌≡◌, ◌≤◌, ◌<◌, ◌+◌, ◌*◌, take, drop, All}
use Rattle.dt_pages.specs.Image.{look_up}
use Rattle.dt_cells.specs.Regions.{class_numbers}
use Rattle.dt_cells.specs.Find.{first_unread}
use Rattle.dt_cells.proofs.head.read_classes.Given as goal

abbrev pub invariant-loop-index : goal.invariant-loop-index
invariant-loop-index g l = record {
  value : first_unread (look_up (g.W.Words.image l.initial.words)) 1 l.classes
      ≡ first_unread (look_up (g.W.Words.image l.initial.words)) (l.index + 1) (drop l.index l.classes);
  range : All (λ class. class < class_numbers) (take l.index l.classes);
  image : g.W.Words.image l.words ≡ g.W.Words.image l.initial.words;
  cost : g.W.Words.cost l.words ≤ g.W.Words.cost l.initial.words + l.index * g.W.Words.COST;
  kept : g.W.Words.kept l.initial.words l.words;
}
