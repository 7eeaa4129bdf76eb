use Rattle.dt_definitions.specs.Parts.{program_of}
use Rattle.dt_definitions.proofs.LawfulSteps.{answer-lawful}
use Rattle.dt_definitions.proofs.parts.Parts.apply.Goals as goal

pub returns-clause-lawful : goal.returns-clause-lawful
returns-clause-lawful c =
    answer-lawful (program_of c.args.self.now) (program_of c.perform.new.self) c.args.edit.now
    c.perform.result c.requires c.law.ensures c.perform.ensures.applies
