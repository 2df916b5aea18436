use Rattle.hz_why_laws.proofs.PictureLaws.{held_cell, free_cell}
use Rattle.hz_why_laws.proofs.pictures.cells_are_of_the_calendar.Goals as goal

pub returns-clause-held : goal.returns-clause-held
returns-clause-held g c = held_cell

pub returns-clause-free : goal.returns-clause-free
returns-clause-free g c same tells name m t lines choices u cycle = free_cell same tells name m t lines choices u cycle
