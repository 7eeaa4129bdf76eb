use Rattle.std.proofs.Common.{◌≡◌, length}
use Rattle.dt_graph.specs.declared.limits.TheConstants.{CLASSES}
use Rattle.dt_definitions.specs.Naming.{KeysStay}
use Rattle.dt_definitions.proofs.naming_index.give_back_in.Given as goal

abbrev pub invariant-loop-class : goal.invariant-loop-class
invariant-loop-class l = record {
  all_classes : length l.lists.items ≡ CLASSES;
  keys : KeysStay l.initial.lists.items l.lists.items;
}
