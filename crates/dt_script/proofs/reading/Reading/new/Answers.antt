use Rattle.std.proofs.Common.{refl, arith}
use Rattle.dt_script.proofs.Built.{holds_header}
use Rattle.dt_script.proofs.reading.Reading.new.Goals as goal

pub returns : goal.returns
returns c = λ readers. record {
  were_read = (c.in_ok-names.ensures, refl);
  places = c.after_header.ensures;
  ended = refl;
  holds = holds_header c.new-2.result c.new-2.ensures.holds;
  few = omega (arith, c.new-2.ensures.current);
}
