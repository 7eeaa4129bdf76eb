use Rattle.std.proofs.Common.{◌≡◌, take, length}
use Rattle.dt_definitions.specs.Naming.{KeysStay}
use Rattle.dt_definitions.proofs.naming_index.copy_lists.Given as goal

abbrev pub invariant-loop-list : goal.invariant-loop-list
invariant-loop-list l = record {
  same : KeysStay (take l.list-index l.list-items) l.copy.items;
  so_many : length l.copy.items ≡ l.list-index;
}
