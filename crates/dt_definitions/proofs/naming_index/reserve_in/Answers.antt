use Rattle.std.proofs.Common.{arith}
use Rattle.std.proofs.lemmas.Bool.{false≢true}
use Rattle.dt_definitions.proofs.NamingLists.{room_left}
use Rattle.dt_definitions.proofs.naming_index.reserve_in.Goals as goal

pub returns-in_err-reserve-clause-succeeds : goal.returns-in_err-reserve-clause-succeeds
returns-in_err-reserve-clause-succeeds c = λ room.
    absurd (false≢true (c.in_err-reserve.ensures.succeeds
    (room_left c.args.lists.now.items c.loop-class.lists.items c.args.classes.now c.loop-class.class-index c.class-item.result c.number.result
    c.index_mut.result.now (omega arith) c.class-item.is c.number.ensures.value
    (omega (arith, c.loop-class.invariant.all_classes, c.number.ensures.in_range)) c.index_mut.ensures.value
    (c.loop-class.invariant.keys c.class-item.result) c.loop-class.invariant.grow (omega (arith, c.number.ensures.value, c.number.ensures.in_range)) room)))
