use Rattle.std.proofs.Common.{ap, sym, ◌∙◌, refl}
use Rattle.std.proofs.lemmas.Bool.{true≢false}
use Rattle.slab.specs.Slab.{Slab, get}
use Rattle.dt_mrd.specs.declared.kept_row.KeptRow.{KeptRow}
use Rattle.dt_mrd.proofs.LevelLoops.{some_cell}
use Rattle.dt_mrd.proofs.levels.keep_row.Goals as goal

pub returns-clause-laid : goal.returns-clause-laid
returns-clause-laid c = record {
  row = record { tag = 0; cells = c.args.cells };
  vacant = sym (ap (λ (s : Slab KeptRow). get s c.insert_reserved.result) c.reserve.ensures.rest_kept) ∙ c.insert_reserved.ensures.was_vacant;
  some = some_cell c.args.cells (λ z. true≢false (sym (c.is_empty.ensures.1 z) ∙ c.if-is_empty.false));
  is = c.insert_reserved.ensures.updates.changed;
  tag = refl;
  cells_are = λ class. refl;
}
