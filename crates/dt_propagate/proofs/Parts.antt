-- Cells and rows alike.
use Rattle.dt_definitions.specs.Lawful.{Lawful}
use Rattle.dt_definitions.specs.Program.{Program}
use Rattle.dt_scratch.specs.Query.{query_order}
use Rattle.dt_propagate.specs.Begun.{HasPart, told_part}
use Rattle.dt_propagate.specs.Boxes.{in_turn}
use Rattle.dt_propagate.specs.Differences.{AreAll}
use Rattle.dt_propagate.specs.GoneThrough.{all_selectors}
use Rattle.dt_propagate.specs.declared.part.Part.{Part}
use Rattle.dt_propagate.specs.declared.part.Part.TheVariants.{Cells, Rows}
use Rattle.dt_propagate.proofs.CellsAndRows.{cells_all, rows_all}

pub part_all : (program : Program) → Lawful program → (part : Part) →
    AreAll query_order (HasPart program part) (in_turn (told_part program part) all_selectors)
part_all program lawful Cells = cells_all program lawful
part_all program lawful Rows = rows_all program lawful
