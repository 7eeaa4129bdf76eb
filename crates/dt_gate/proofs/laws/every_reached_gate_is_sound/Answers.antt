use Rattle.dt_gate.specs.Gate.{bounds_of}
use Rattle.dt_gate.proofs.Running.{reached_is_sound, reached_more, step_is_sound}
use Rattle.dt_gate.proofs.laws.every_reached_gate_is_sound.Goals as goal

pub returns-clause-sound : goal.returns-clause-sound
returns-clause-sound g c = reached_is_sound g.M.Meaning.shows (bounds_of c.args.readers c.args.pages c.args.entries) c.requires.bounds c.requires.empty
    c.reached_pages_decide.ensures c.page_zero_is_empty.ensures

pub returns-clause-goes_on : goal.returns-clause-goes_on
returns-clause-goes_on g c = reached_more g.M.Meaning.shows (bounds_of c.args.readers c.args.pages c.args.entries)

pub returns-clause-kept : goal.returns-clause-kept
returns-clause-kept g c = step_is_sound g.M.Meaning.shows (bounds_of c.args.readers c.args.pages c.args.entries) c.reached_pages_decide.ensures
