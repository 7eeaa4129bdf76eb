use Rattle.std.proofs.Common.{arith}
use Rattle.std.proofs.lemmas.List.{length_push}
use Rattle.dt_definitions.proofs.Lists.{none_push}
use Rattle.dt_definitions.proofs.all_definitions.empty_lists.Goals as goal

pub loop-preserved : goal.loop-preserved
loop-preserved c =
    let items = c.in_ok-push.ensures.items in
    record {
      so_many = rw items (omega (arith, length_push c.loop.rows.items c.new.result));
      none = rw items (none_push c.loop.rows.items c.new.result c.loop.invariant.none c.new.ensures);
    }
