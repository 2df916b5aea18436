use Rattle.hz_report.proofs.replayed.put_asks.Given as goal

abbrev pub ghosts-add_asks : goal.ghosts-add_asks
ghosts-add_asks g a = record { name = a.blank.name; parts = a.blank.parts }
