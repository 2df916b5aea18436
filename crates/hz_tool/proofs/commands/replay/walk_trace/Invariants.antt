use Rattle.hz_tool.proofs.commands.replay.walk_trace.Given as goal

abbrev pub ghosts-outcome_of : goal.ghosts-outcome_of
ghosts-outcome_of a = record { name = a.blank.name; parts = a.blank.parts }
