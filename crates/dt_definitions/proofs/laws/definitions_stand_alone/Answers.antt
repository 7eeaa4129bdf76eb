use Rattle.dt_definitions.proofs.DefinitionLaws.{define_sets_one_body, undefine_clears_one_body, defines_commute}
use Rattle.dt_definitions.proofs.laws.definitions_stand_alone.Goals as goal

pub returns : goal.returns
returns c = record { made = define_sets_one_body; gone = undefine_clears_one_body; in_either_order = defines_commute }
