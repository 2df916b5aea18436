use Rattle.hz_claims_laws.proofs.TakenUnits.{taken_in, taken_by_class, taken_at, takes_it}
use Rattle.hz_claims_laws.proofs.taking_laws.units_are_taken_in_the_cycles_of_their_pairs.Goals as goal

pub returns-clause-of_alternative : goal.returns-clause-of_alternative
returns-clause-of_alternative c = taken_in

pub returns-clause-of_class : goal.returns-clause-of_class
returns-clause-of_class c = taken_by_class

pub returns-clause-of_grid : goal.returns-clause-of_grid
returns-clause-of_grid c = taken_at

pub returns-clause-of_pair : goal.returns-clause-of_pair
returns-clause-of_pair c = takes_it
