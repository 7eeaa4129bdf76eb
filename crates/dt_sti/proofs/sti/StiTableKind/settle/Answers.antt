use Rattle.std.proofs.Common.{arith}
use Rattle.dt_sti.specs.StiLaws.{shown_after}
use Rattle.dt_sti.proofs.sti.StiTableKind.settle.Goals as goal

pub returns-clause-stands : goal.returns-clause-stands
returns-clause-stands c = λ x held changes y sh able cells stay. shown_after 1 y x held changes sh (omega arith) able cells
