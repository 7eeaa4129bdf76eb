use Rattle.dt_definitions.proofs.Lists.{none_from_empty}
use Rattle.dt_definitions.proofs.DefinitionChanges.{kept_empty}
use Rattle.dt_definitions.proofs.all_definitions.AllDefinitions.new.Goals as goal

pub invariant_of-result : goal.invariant_of-result
invariant_of-result c =
    let rows = c.in_ok-rows.ensures in
    kept_empty c.in_ok-rows.rows.items c.in_ok-index.index rows.0 rows.1 c.in_ok-index.ensures

pub returns : goal.returns
returns c = none_from_empty 0 c.in_ok-rows.rows.items c.in_ok-rows.ensures.1
