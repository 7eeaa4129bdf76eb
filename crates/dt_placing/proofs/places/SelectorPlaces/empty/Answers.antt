use Rattle.dt_placing.proofs.Keeping.{none_stands}
use Rattle.dt_placing.proofs.places.SelectorPlaces.empty.Goals as goal

pub returns : goal.returns
returns c = none_stands c.args.geometry c.in_ok-words.words.items c.new-cells.result c.in_ok-words.ensures.zeros c.new-cells.ensures.geometry c.new-cells.ensures.kept
