use Rattle.hz_modulo.proofs.lanes.lanes_of.Given as goal

abbrev pub ghosts-lanes_by : goal.ghosts-lanes_by
ghosts-lanes_by a = record { name = a.blank.name; parts = a.blank.parts }
