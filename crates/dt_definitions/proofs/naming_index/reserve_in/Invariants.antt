use Rattle.std.proofs.Common.{◌≡◌, take, length}
use Rattle.dt_graph.specs.declared.limits.TheConstants.{CLASSES}
use Rattle.dt_definitions.specs.Naming.{HasRoomIn, KeysStay, RoomsGrow}
use Rattle.dt_definitions.proofs.naming_index.reserve_in.Given as goal

abbrev pub invariant-loop-class : goal.invariant-loop-class
invariant-loop-class l = record {
  all_classes : length l.lists.items ≡ CLASSES;
  keys : KeysStay l.initial.lists.items l.lists.items;
  grow : RoomsGrow l.initial.lists.items l.lists.items;
  room : HasRoomIn l.lists.items (take l.class-index l.classes);
}
