use Rattle.dt_version.specs.Limits.{bounds}
use Rattle.dt_version.proofs.laws.the_rule_is_sound.Goals as goal

pub returns : goal.returns
returns g c size state (gate, running, shown) =
    record { gate = gate; shown = shown; sound = c.laws_of_runs.ensures.sound (bounds size) running.in_range running.empty gate running.reached }
