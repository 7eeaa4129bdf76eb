use Rattle.dt_tables.proofs.what_follows.all_changes.Given as goal

abbrev pub ghosts-changes_counted_by : goal.ghosts-changes_counted_by
ghosts-changes_counted_by a = record { name = a.blank.name; parts = a.blank.parts }
