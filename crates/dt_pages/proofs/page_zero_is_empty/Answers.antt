use Rattle.dt_pages.proofs.Readings.{zero_reading, zero_meets, empty_reading}
use Rattle.dt_pages.specs.Reading.{levels}
use Rattle.dt_pages.proofs.page_zero_is_empty.Goals as goal

pub returns : goal.returns
returns c = record {
  image = empty_reading;
  reading = zero_reading;
  reach = λ pages zeros page met. zero_meets pages zeros levels page met;
}
