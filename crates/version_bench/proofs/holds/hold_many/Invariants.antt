use Rattle.version_bench.proofs.holds.hold_many.Given as goal

abbrev pub ghosts-hold_all : goal.ghosts-hold_all
ghosts-hold_all a = record { name = a.blank.name; parts = a.blank.parts }
