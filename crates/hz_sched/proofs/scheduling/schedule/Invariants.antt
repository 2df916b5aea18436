use Rattle.hz_sched.proofs.scheduling.schedule.Given as goal

abbrev pub ghosts-slots_on : goal.ghosts-slots_on
ghosts-slots_on a = record { name = a.blank.name; parts = a.blank.parts }
