use Rattle.std.proofs.Common.{sym, ap, subst, ◌∙◌}
use Rattle.dt_pages.specs.Reading.{Reading}
use Rattle.dt_pages.specs.Image.{Image, look_up}
use Rattle.dt_definitions.specs.Program.{empty_program}
use Rattle.dt_cells.specs.Held.{none_held}
use Rattle.dt_cells.specs.Following.{IsTableOf}
use Rattle.dt_cells.proofs.BatchSteps.{first}
use Rattle.dt_cells.proofs.following.first_table.Goals as goal

pub returns-clause-table : goal.returns-clause-table
returns-clause-table g c =
    subst (λ (x : Reading). IsTableOf g.K.TableKind.kind (g.K.TableKind.stands c.in_ok-kind.kind) c.args.least x none_held empty_program)
    (sym (ap (λ (image : Image). look_up image) c.in_ok-tree.ensures ∙ c.page_zero_is_empty.ensures.image))
    (first g.K.TableKind.kind (g.K.TableKind.stands c.in_ok-kind.kind) c.args.least c.in_ok-kind.ensures.0)
