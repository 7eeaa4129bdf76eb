use Rattle.dt_gate.specs.Gate.{bounds_of}
use Rattle.dt_gate.proofs.Running.{reached_is_kept}
use Rattle.dt_gate.proofs.Room.{room}
use Rattle.dt_gate.proofs.Sweeping.{sweep_leads}
use Rattle.dt_gate.proofs.laws.a_sweep_leaves_room.Goals as goal

pub returns-clause-leads : goal.returns-clause-leads
returns-clause-leads g c = sweep_leads

pub returns-clause-room : goal.returns-clause-room
returns-clause-room g c = λ gate reached.
    room g.M.Meaning.shows (bounds_of c.args.readers c.args.pages c.args.entries) gate
    (reached_is_kept g.M.Meaning.shows (bounds_of c.args.readers c.args.pages c.args.entries) c.requires.bounds c.requires.empty
    c.reached_pages_decide.ensures c.page_zero_is_empty.ensures gate reached)
