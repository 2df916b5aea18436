use Rattle.hz_sched.proofs.fitting.fits.Given as goal

abbrev pub ghosts-each_steps : goal.ghosts-each_steps
ghosts-each_steps a = record { name = a.blank.name; parts = a.blank.parts }
