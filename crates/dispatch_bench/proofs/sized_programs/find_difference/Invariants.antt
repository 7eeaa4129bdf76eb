use Rattle.dispatch_bench.proofs.sized_programs.find_difference.Given as goal

abbrev pub ghosts-counted_by : goal.ghosts-counted_by
ghosts-counted_by a = record { name = a.blank.name; parts = a.blank.parts }
