-- What it is for a value of this kind to stand for a reading: it keeps nothing, so that the reading shows what is held.
use Rattle.std.proofs.Common.{false, arith, sym, true≢false}
use Rattle.dt_cells.specs.Standing.{IsStanding}
use Rattle.dt_sti.specs.Sti.{sti, StiShows}
use Rattle.dt_sti.specs.StiLaws.{sti_is_lawful}

pub sti_stands : (V : Type 0) → IsStanding V sti (λ value. 1) (λ value selector. false) (λ value x held. StiShows x held)
sti_stands V = record {
  shows = λ v x held sh. sh;
  elsewhere = λ v x y held sh same. sti_is_lawful.shown_elsewhere x y held sh same;
  least = λ v x held sh. omega arith;
  in_arities = λ v x held q sh h. let one = sh.one q h in (omega (arith, one), omega (arith, one));
  tells = λ v x held s sh e. absurd (true≢false (sym e));
  tells_none = λ v x held s sh e p. p;
}
