use Rattle.std.proofs.Common.{◌≡◌, take, length}
use Rattle.dt_graph.specs.declared.limits.TheConstants.{CLASSES}
use Rattle.dt_definitions.specs.Naming.{insert_key, RoomsGrow}
use Rattle.dt_definitions.proofs.NamingLists.{ChangedIn}
use Rattle.dt_definitions.proofs.naming_index.insert_in.Given as goal

abbrev pub invariant-loop-place : goal.invariant-loop-place
invariant-loop-place l = record {
  all_classes : length l.lists.items ≡ CLASSES;
  changed : ChangedIn (insert_key l.key) l.initial.lists.items l.lists.items (take l.place l.classes);
  grow : RoomsGrow l.initial.lists.items l.lists.items;
}
