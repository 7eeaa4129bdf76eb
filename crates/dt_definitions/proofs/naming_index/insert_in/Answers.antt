use Rattle.std.proofs.Common.{sym, subst, arith}
use Rattle.dt_definitions.specs.Naming.{insert_key, HasRoomIn}
use Rattle.dt_definitions.proofs.NamingLists.{room_left, still}
use Rattle.dt_definitions.proofs.naming_index.insert_in.Goals as goal

pub insert-requires : goal.insert-requires
insert-requires c =
    room_left c.args.lists.now.items c.loop-place.lists.items c.classes-classes.result.now c.loop-place.place
    c.index-classes-place.result c.number.result c.index_mut.result.now (omega arith) c.index-classes-place.is c.number.ensures.value
    (omega (arith, c.loop-place.invariant.all_classes, c.number.ensures.in_range)) c.index_mut.ensures.value
    (still (insert_key c.args.key.now) c.args.lists.now.items c.loop-place.lists.items c.classes-classes.result.now c.loop-place.place
    c.index-classes-place.result (omega arith) c.index-classes-place.is c.loop-place.invariant.changed c.if-not-contains.ensures.value)
    c.loop-place.invariant.grow
    (omega (arith, c.number.ensures.value, c.number.ensures.in_range)) (subst (HasRoomIn c.args.lists.now.items) (sym c.classes-classes.ensures.value) c.requires.room)
