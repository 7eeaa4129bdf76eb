use Rattle.std.proofs.Common.{ap, subst}
use Rattle.dt_pages.specs.Image.{look_up}
use Rattle.dt_definitions.specs.Program.{Program}
use Rattle.dt_definitions.specs.Lawful.{Lawful}
use Rattle.dt_cells.specs.Serving.{Serves}
use Rattle.dt_tables.specs.Words.{WithTable}
use Rattle.dt_tables.proofs.KeptSteps.{kept_serves}
use Rattle.dt_tables.proofs.tabled.Tabled.tree.Goals as goal

pub returns-clause-serves : goal.returns-clause-serves
returns-clause-serves g c = subst (λ (p : Program). Serves 1 g.K.TableKind.kind p (look_up c.self.inside.tree)) (ap (λ (t : WithTable). t.program) c.self.view_is)
    (kept_serves g.K.TableKind.kind (g.met.K.TableKind g.world.𝓛 g.world.𝓜 g.world.𝓡 ((λ s x. x), (λ x. x), (λ x. x), λ x. x)).laws c.law_of_cells.ensures.understood (g.K.TableKind.stands c.self.inside.kind) (g.K.TableKind.low c.self.inside.kind)
    (look_up c.self.inside.tree) c.self.inside.programs c.self.inside.sizes c.self.invariant
    (subst Lawful c.stands.ensures c.law.ensures.lawful)
    ((g.met.K.TableKind g.world.𝓛 g.world.𝓜 g.world.𝓡 ((λ s x. x), (λ x. x), (λ x. x), λ x. x)).standing.shows c.self.inside.kind (look_up c.self.inside.tree) c.self.invariant.held c.self.invariant.table.standing))
