use Rattle.dt_definitions.proofs.DefinitionChanges.{same_row}
use Rattle.dt_definitions.proofs.all_definitions.give_back_in.Goals as goal

pub returns-clause-stay : goal.returns-clause-stay
returns-clause-stay c =
    same_row c.args.rows.now.items 0 c.number.result c.index_mut.result.now c.give_back.new.self c.index_mut.ensures.value c.give_back.ensures
