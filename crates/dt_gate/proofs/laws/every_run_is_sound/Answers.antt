use Rattle.std.proofs.Common.{take}
use Rattle.dt_gate.specs.Gate.{bounds_of}
use Rattle.dt_gate.proofs.Running.{runs_are_sound}
use Rattle.dt_gate.proofs.laws.every_run_is_sound.Goals as goal

pub returns : goal.returns
returns g c = λ n allowed. runs_are_sound g.M.Meaning.shows (bounds_of c.args.readers c.args.pages c.args.entries) c.requires.bounds c.requires.empty
    c.reached_pages_decide.ensures c.page_zero_is_empty.ensures (take n c.args.events.now) allowed
