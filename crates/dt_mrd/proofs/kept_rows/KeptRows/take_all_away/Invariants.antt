use Rattle.std.proofs.Common.{◌≡◌, ℕ, false, List, take, Option}
use Rattle.slab.specs.Slab.{get}
use Rattle.dt_pages.specs.Image.{look_up}
use Rattle.dt_pages.specs.Draft.{laid_over}
use Rattle.dt_scratch.specs.declared.reply.Change.{Change}
use Rattle.dt_cells.specs.Held.{Held}
use Rattle.dt_fit.specs.Cells.{is_kept, is_tried}
use Rattle.dt_fit.specs.declared.geometry.Geometry.TheVariants.{Displacements}
use Rattle.dt_mrd.specs.Reading.{owns}
use Rattle.dt_mrd.specs.Placing.{rows_of}
use Rattle.dt_mrd.specs.Midway.{Cleared}
use Rattle.dt_mrd.specs.Turns.{has_turn, tags_in, CanPlace}
use Rattle.dt_mrd.proofs.kept_rows.KeptRows.take_all_away.Given as goal

abbrev pub invariant-loop-turn : goal.invariant-loop-turn
invariant-loop-turn l = record {
  rest_kept : l.self ≡ record l.initial.self { cells = l.self.cells; taken = l.self.taken };
  cells : l.self.cells.geometry ≡ Displacements;
  taken : l.self.taken.geometry ≡ Displacements;
  cells_kept : (cell : ℕ) → is_kept l.self.cells cell ≡ is_kept l.initial.self.cells cell;
  taken_kept : (displacement : ℕ) → is_kept l.self.taken displacement ≡ is_kept l.initial.self.taken displacement;
  cleared : (held : Held) (changes : List Change) (roots : List (Option ℕ)) → CanPlace (look_up l.tree) (laid_over l.initial.draft (look_up l.tree)) held changes
      l.initial.self.roots.items roots (get l.initial.self.rows) l.initial.self.fresh.items l.turns (is_tried l.initial.self.cells) (is_tried l.initial.self.taken)
      → Cleared (rows_of (look_up l.tree) held changes (tags_in roots (get l.initial.self.rows))) (has_turn (take l.turn-index l.turns))
      (laid_over l.draft (look_up l.tree)) (is_tried l.self.cells) (is_tried l.self.taken);
  rest : (address : ℕ) → owns address ≡ false → laid_over l.draft (look_up l.tree) address ≡ laid_over l.initial.draft (look_up l.tree) address;
}
