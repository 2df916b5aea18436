use Rattle.hz_layer_rows.proofs.automata.forms.answer.Given as goal

abbrev pub ghosts-counted : goal.ghosts-counted
ghosts-counted a = record { name = a.blank.name; parts = a.blank.parts }
