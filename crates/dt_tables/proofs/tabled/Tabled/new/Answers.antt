use Rattle.dt_pages.specs.Image.{look_up}
use Rattle.dt_definitions.specs.Program.{empty_program}
use Rattle.dt_cells.specs.Held.{none_held}
use Rattle.dt_tables.proofs.KeptSteps.{empty_within, kept}
use Rattle.dt_tables.proofs.tabled.Tabled.new.Goals as goal

pub invariant_of-result : goal.invariant_of-result
invariant_of-result g c = kept g.K.TableKind.kind (g.K.TableKind.stands c.in_ok-kind.kind) (g.K.TableKind.low c.in_ok-kind.kind)
    (look_up c.in_ok-kind.tree) none_held empty_program c.in_ok-programs.programs c.none.result c.in_ok-programs.ensures
    c.in_ok-kind.ensures.low c.in_ok-kind.ensures.table empty_within c.none.ensures
