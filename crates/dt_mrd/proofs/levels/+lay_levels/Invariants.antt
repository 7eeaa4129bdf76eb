use Rattle.dt_mrd.proofs.levels.+lay_levels.Given as goal

abbrev pub decreases-lay_levels : goal.decreases-lay_levels
decreases-lay_levels l = l.depth
