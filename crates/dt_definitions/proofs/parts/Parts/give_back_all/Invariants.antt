use Rattle.std.proofs.Common.{◌≡◌}
use Rattle.dt_definitions.specs.Parts.{program_of}
use Rattle.dt_definitions.proofs.parts.Parts.give_back_all.Given as goal

abbrev pub invariant-loop-edit : goal.invariant-loop-edit
invariant-loop-edit l = program_of l.self ≡ program_of l.initial.self
