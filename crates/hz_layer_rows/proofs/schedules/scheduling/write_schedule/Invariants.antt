use Rattle.hz_layer_rows.proofs.schedules.scheduling.write_schedule.Given as goal

abbrev pub ghosts-outcome_of : goal.ghosts-outcome_of
ghosts-outcome_of a = record { name = a.blank.name; parts = a.blank.parts }
