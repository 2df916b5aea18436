use Rattle.hz_laws.proofs.Moving.MovingLaws.{held_moved, held_stays}
use Rattle.hz_laws.proofs.align_laws.units_that_stay_are_held_as_before.Goals as goal

pub returns-clause-stays : goal.returns-clause-stays
returns-clause-stays g c = held_stays

pub returns-clause-moves : goal.returns-clause-moves
returns-clause-moves g c = held_moved
