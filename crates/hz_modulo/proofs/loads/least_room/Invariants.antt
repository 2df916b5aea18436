use Rattle.hz_modulo.proofs.loads.least_room.Given as goal

abbrev pub ghosts-least_room_by : goal.ghosts-least_room_by
ghosts-least_room_by a = record { name = a.blank.name; parts = a.blank.parts }
