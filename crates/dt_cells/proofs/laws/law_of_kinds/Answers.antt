use Rattle.dt_cells.proofs.Serving.{blank_serves, shown_serves, serves_after, none_is_stray_after, rest_stays}
use Rattle.dt_cells.proofs.BatchSteps.{one_image_after}
use Rattle.dt_cells.proofs.laws.law_of_kinds.Goals as goal

pub returns-clause-shown : goal.returns-clause-shown
returns-clause-shown g c = shown_serves c.law_of_cells.ensures.understood g.K.TableKind.kind (g.met.K.TableKind g.world.𝓛 g.world.𝓜 g.world.𝓡 ((λ s x. x), (λ x. x), (λ x. x), λ x. x)).laws

pub returns-clause-after : goal.returns-clause-after
returns-clause-after g c = serves_after c.law_of_cells.ensures.understood g.K.TableKind.kind (g.met.K.TableKind g.world.𝓛 g.world.𝓜 g.world.𝓡 ((λ s x. x), (λ x. x), (λ x. x), λ x. x)).laws

pub returns-clause-strays : goal.returns-clause-strays
returns-clause-strays g c = none_is_stray_after c.law_of_cells.ensures.understood g.K.TableKind.kind (g.met.K.TableKind g.world.𝓛 g.world.𝓜 g.world.𝓡 ((λ s x. x), (λ x. x), (λ x. x), λ x. x)).laws

pub returns-clause-rest : goal.returns-clause-rest
returns-clause-rest g c = rest_stays c.law_of_cells.ensures.understood g.K.TableKind.kind (g.met.K.TableKind g.world.𝓛 g.world.𝓜 g.world.𝓡 ((λ s x. x), (λ x. x), (λ x. x), λ x. x)).laws

pub returns-clause-blank : goal.returns-clause-blank
returns-clause-blank g c = blank_serves c.law_of_cells.ensures.understood g.K.TableKind.kind (g.met.K.TableKind g.world.𝓛 g.world.𝓜 g.world.𝓡 ((λ s x. x), (λ x. x), (λ x. x), λ x. x)).laws

pub returns-clause-determined : goal.returns-clause-determined
returns-clause-determined g c = one_image_after g.K.TableKind.kind (g.met.K.TableKind g.world.𝓛 g.world.𝓜 g.world.𝓡 ((λ s x. x), (λ x. x), (λ x. x), λ x. x)).laws
