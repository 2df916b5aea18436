use Rattle.hz_replay.proofs.drilling.drill.Given as goal

abbrev pub ghosts-drill_uncounted : goal.ghosts-drill_uncounted
ghosts-drill_uncounted a = record { name = a.blank.name; parts = a.blank.parts }
