use Rattle.version_bench.proofs.visits.visit_many.Given as goal

abbrev pub ghosts-visit_all : goal.ghosts-visit_all
ghosts-visit_all a = record { name = a.blank.name; parts = a.blank.parts }
