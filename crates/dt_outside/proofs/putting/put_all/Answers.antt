use Rattle.std.proofs.Common.{ℕ, ◌∙◌, length-take, length-drop, arith}
use Rattle.dt_outside.proofs.Appending.{appends_more, take-rest}
use Rattle.dt_outside.proofs.putting.put_all.Goals as goal

pub loop-at-preserved : goal.loop-at-preserved
loop-at-preserved g c =
    let text = c.args.text.now in
    let at = c.loop-at.at in
    record {
      put = appends_more _ _ _ at c.in_ok-at.field-0 text c.loop-at.invariant.put (rw take-rest at c.in_ok-at.ensures.bytes);
      bound = omega (arith, length-take {A = ℕ}, length-drop {A = ℕ}, c.in_ok-at.ensures.bound);
      faults = c.in_ok-at.ensures.counted ∙ c.loop-at.invariant.faults;
    }
