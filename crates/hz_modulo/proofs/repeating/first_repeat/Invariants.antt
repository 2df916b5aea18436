use Rattle.hz_modulo.proofs.repeating.first_repeat.Given as goal

abbrev pub ghosts-first_repeat_by : goal.ghosts-first_repeat_by
ghosts-first_repeat_by a = record { name = a.blank.name; parts = a.blank.parts }
