use Rattle.std.proofs.Common.{ap, subst, ◌∙◌, ◌≤◌, arith}
use Rattle.dt_pages.specs.Image.{look_up}
use Rattle.dt_definitions.specs.Program.{Program}
use Rattle.dt_definitions.specs.Lawful.{Lawful}
use Rattle.dt_scratch.specs.Query.{arity_of_query}
use Rattle.dt_cells.specs.Serving.{Serves}
use Rattle.dt_tables.specs.Words.{WithTable}
use Rattle.dt_tables.proofs.KeptSteps.{kept_serves}
use Rattle.dt_tables.proofs.tabled.Tabled.reply.Goals as goal

pub returns-then-arity-ARITIES-clause-value : goal.returns-then-arity-ARITIES-clause-value
returns-then-arity-ARITIES-clause-value g c =
    let serves : Serves 1 g.K.TableKind.kind c.args.self.now.program (look_up c.self.inside.tree) =
    subst (λ (p : Program). Serves 1 g.K.TableKind.kind p (look_up c.self.inside.tree)) (ap (λ (t : WithTable). t.program) c.self.view_is)
    (kept_serves g.K.TableKind.kind (g.met.K.TableKind g.world.𝓛 g.world.𝓜 g.world.𝓡 ((λ s x. x), (λ x. x), (λ x. x), λ x. x)).laws c.law_of_cells.ensures.understood (g.K.TableKind.stands c.self.inside.kind) (g.K.TableKind.low c.self.inside.kind)
    (look_up c.self.inside.tree) c.self.inside.programs c.self.inside.sizes c.self.invariant
    (subst Lawful c.stands.ensures c.law-2.ensures.lawful)
    ((g.met.K.TableKind g.world.𝓛 g.world.𝓜 g.world.𝓡 ((λ s x. x), (λ x. x), (λ x. x), λ x. x)).standing.shows c.self.inside.kind (look_up c.self.inside.tree) c.self.invariant.held c.self.invariant.table.standing)) in
    let some : 1 ≤ arity_of_query c.args.query.now = omega (arith, c.law.ensures.some) in
    let covers = (g.met.K.TableKind g.world.𝓛 g.world.𝓜 g.world.𝓡 ((λ s x. x), (λ x. x), (λ x. x), λ x. x)).covers in
    let few : arity_of_query c.args.query.now ≤ g.K.TableKind.kind.arities = omega (arith, c.if-arity-ARITIES.true, c.arity.ensures.value, c.ARITIES.ensures, covers) in
    c.find.ensures.value ∙ serves c.args.query.now some few
