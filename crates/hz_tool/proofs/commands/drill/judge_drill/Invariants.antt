use Rattle.hz_tool.proofs.commands.drill.judge_drill.Given as goal

abbrev pub ghosts-drilled_on : goal.ghosts-drilled_on
ghosts-drilled_on a = record { name = a.blank.name; parts = a.blank.parts }
