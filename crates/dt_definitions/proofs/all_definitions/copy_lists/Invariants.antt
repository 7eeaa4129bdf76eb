use Rattle.std.proofs.Common.{take}
use Rattle.dt_definitions.specs.SelectorLists.{HaveSameDefinitions}
use Rattle.dt_definitions.proofs.all_definitions.copy_lists.Given as goal

abbrev pub invariant-loop-row : goal.invariant-loop-row
invariant-loop-row l = HaveSameDefinitions (take l.row-index l.row-items) l.copy.items
