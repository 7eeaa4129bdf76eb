use Rattle.std.proofs.Common.{◌≡◌, ℕ, false, List, [], take, Option, Contains}
use Rattle.slab.specs.Slab.{get}
use Rattle.dt_pages.specs.Image.{look_up}
use Rattle.dt_pages.specs.Draft.{laid_over}
use Rattle.dt_scratch.specs.declared.reply.Change.{Change}
use Rattle.dt_cells.specs.Held.{Held}
use Rattle.dt_fit.specs.Cells.{is_kept, is_tried}
use Rattle.dt_fit.specs.declared.geometry.Geometry.TheVariants.{Displacements}
use Rattle.dt_mrd.specs.Reading.{owns}
use Rattle.dt_mrd.specs.Turns.{ArePlaced}
use Rattle.dt_mrd.proofs.kept_rows.KeptRows.take_turns.Given as goal

abbrev pub invariant-loop-turn : goal.invariant-loop-turn
invariant-loop-turn l = record {
  rest_kept : l.self ≡ record l.initial.self { rows = l.self.rows; cells = l.self.cells; taken = l.self.taken };
  cells : l.self.cells.geometry ≡ Displacements;
  taken : l.self.taken.geometry ≡ Displacements;
  cells_kept : (cell : ℕ) → is_kept l.self.cells cell ≡ is_kept l.initial.self.cells cell;
  taken_kept : (displacement : ℕ) → is_kept l.self.taken displacement ≡ is_kept l.initial.self.taken displacement;
  rows_kept : (key : ℕ) → (Contains l.initial.self.fresh.items key → ⊥) → get l.self.rows key ≡ get l.initial.self.rows key;
  placed : (held : Held) (changes : List Change) (roots : List (Option ℕ)) → ArePlaced (look_up l.tree) (laid_over l.initial.draft (look_up l.tree)) held changes
      l.initial.self.roots.items roots (get l.initial.self.rows) l.initial.self.fresh.items l.turns [] (is_tried l.initial.self.cells) (is_tried l.initial.self.taken)
      → ArePlaced (look_up l.tree) (laid_over l.draft (look_up l.tree)) held changes
      l.initial.self.roots.items roots (get l.self.rows) l.initial.self.fresh.items l.turns (take l.turn-index l.turns) (is_tried l.self.cells) (is_tried l.self.taken);
  rest : (address : ℕ) → owns address ≡ false → laid_over l.draft (look_up l.tree) address ≡ laid_over l.initial.draft (look_up l.tree) address;
}
