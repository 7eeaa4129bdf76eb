use Rattle.std.proofs.Common.{◌≡◌, ◌<◌, ◌/◌, length, arith, get_or, Some, None, sym, ◌∙◌}
use Rattle.std.proofs.lemmas.List.{get_or_default}
use Rattle.dt_pages.proofs.Rooms.{zero_middle, either_set}
use Rattle.dt_pages.proofs.overlay.move_leaf.Goals as goal

pub take_leaf-requires-clause-zeros : goal.take_leaf-requires-clause-zeros
take_leaf-requires-clause-zeros c =
    let within : c.args.at / 262144 < length c.args.rooms.now.items = omega arith in
    let node : get_or c.args.rooms.now.items (c.args.at / 262144) None ≡ Some c.in-Some-index_mut.room =
    get_or_default c.args.rooms.now.items (c.args.at / 262144) None c.index_mut-in-Some.result.now within ∙ sym c.index_mut-in-Some.ensures.value ∙ c.in-Some-index_mut.is in
    zero_middle c.args.rooms.now.items (c.args.at / 262144) c.in-Some-index_mut.room node c.requires.zeros

pub returns-in-Some-index_mut-clause-either : goal.returns-in-Some-index_mut-clause-either
returns-in-Some-index_mut-clause-either c =
    let within : c.args.at / 262144 < length c.args.middles.now.items = omega arith in
    let rooms_within : c.args.at / 262144 < length c.args.rooms.now.items = omega arith in
    let middle : get_or c.args.middles.now.items (c.args.at / 262144) None ≡ Some c.in-Some.middle =
    get_or_default c.args.middles.now.items (c.args.at / 262144) None c.index_mut.result.now within ∙ sym c.index_mut.ensures.value ∙ c.in-Some.is in
    let room : get_or c.args.rooms.now.items (c.args.at / 262144) None ≡ Some c.in-Some-index_mut.room =
    get_or_default c.args.rooms.now.items (c.args.at / 262144) None c.index_mut-in-Some.result.now rooms_within ∙ sym c.index_mut-in-Some.ensures.value ∙ c.in-Some-index_mut.is in
    either_set c.args.middles.now.items c.args.rooms.now.items (c.args.at / 262144) c.in-Some.middle c.in-Some-index_mut.room c.take_leaf.new.self c.take_leaf.new.room
    within rooms_within middle room c.take_leaf.ensures.either
