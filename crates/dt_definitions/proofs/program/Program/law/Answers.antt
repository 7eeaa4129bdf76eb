use Rattle.std.proofs.Common.{subst}
use Rattle.dt_definitions.specs.Lawful.{Lawful}
use Rattle.dt_definitions.proofs.DefinitionOrder.{defined-once}
use Rattle.dt_definitions.proofs.LawfulSteps.{definitions-fit}
use Rattle.dt_definitions.proofs.program.Program.law.Goals as goal

pub returns-clause-definitions_fit : goal.returns-clause-definitions_fit
returns-clause-definitions_fit c = definitions-fit c.args.self.now (subst Lawful c.self.view_is c.self.invariant)

pub returns-clause-defined_once : goal.returns-clause-defined_once
returns-clause-defined_once c = λ selector classes.
    defined-once selector classes c.args.self.now.definitions (subst Lawful c.self.view_is c.self.invariant).definitions_ascend
