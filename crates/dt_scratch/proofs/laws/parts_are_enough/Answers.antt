use Rattle.dt_scratch.proofs.Parts.{all_are_enough, parts_are_enough}
use Rattle.dt_scratch.proofs.laws.parts_are_enough.Goals as goal

pub returns : goal.returns
returns c = record {
  all = all_are_enough;
  parts = parts_are_enough;
}
