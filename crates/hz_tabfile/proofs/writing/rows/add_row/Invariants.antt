use Rattle.hz_tabfile.proofs.writing.rows.add_row.Given as goal

abbrev pub ghosts-add_entries : goal.ghosts-add_entries
ghosts-add_entries g a = record { name = a.blank.name; parts = a.blank.parts }
