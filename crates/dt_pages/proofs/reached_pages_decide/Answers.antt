use Rattle.std.proofs.Common.{refl, inl}
use Rattle.dt_pages.proofs.Readings.{reading_same, meets_same}
use Rattle.dt_pages.specs.Reading.{levels}
use Rattle.dt_pages.proofs.reached_pages_decide.Goals as goal

pub returns : goal.returns
returns c = record {
  reading = reading_same;
  reach = λ pages others top same page. meets_same pages others levels top page same;
  itself = λ pages top. inl refl;
}
