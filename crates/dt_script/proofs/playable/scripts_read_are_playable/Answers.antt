use Rattle.dt_script.proofs.InTurn.{read_is_playable, read_has_phase}
use Rattle.dt_script.proofs.playable.scripts_read_are_playable.Goals as goal

pub returns : goal.returns
returns c = record { playable = read_is_playable; phase = read_has_phase }
