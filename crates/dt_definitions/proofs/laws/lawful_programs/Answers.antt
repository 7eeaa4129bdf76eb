use Rattle.dt_definitions.proofs.ProgramLaws.{live_classes_are_in_range, definitions_fit, definitions_stand_once, bodies_are_in_range, no_class_is_above_itself}
use Rattle.dt_definitions.proofs.laws.lawful_programs.Goals as goal

pub returns : goal.returns
returns c = record {
  live_in_range = live_classes_are_in_range;
  definitions_fit = definitions_fit;
  defined_once = definitions_stand_once;
  bodies_in_range = bodies_are_in_range;
  no_cycle = no_class_is_above_itself;
}
