use Rattle.hz_modulo.proofs.lanes.stuck_lane.Given as goal

abbrev pub ghosts-stuck_by : goal.ghosts-stuck_by
ghosts-stuck_by a = record { name = a.blank.name; parts = a.blank.parts }
