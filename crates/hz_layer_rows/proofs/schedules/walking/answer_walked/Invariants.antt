use Rattle.hz_layer_rows.proofs.schedules.walking.answer_walked.Given as goal

abbrev pub ghosts-write_walk : goal.ghosts-write_walk
ghosts-write_walk a = record { name = a.blank.name; parts = a.blank.parts }
