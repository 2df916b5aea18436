use Rattle.hz_measure_model.proofs.Bounds.BlockBounds.{one_bound_of_a_block, some_bound_of_a_block}
use Rattle.hz_measure_model.proofs.Bounds.TotalLaws.{one_bound, some_bound}
use Rattle.hz_measure_model.proofs.bound_laws.a_block_has_one_bound.Goals as goal

pub returns-clause-one : goal.returns-clause-one
returns-clause-one c = one_bound_of_a_block

pub returns-clause-some : goal.returns-clause-some
returns-clause-some c = some_bound_of_a_block

pub returns-clause-one_of_a_graph : goal.returns-clause-one_of_a_graph
returns-clause-one_of_a_graph c = λ taken names g b d upward one other. one_bound g upward taken names b d one other

pub returns-clause-some_of_a_graph : goal.returns-clause-some_of_a_graph
returns-clause-some_of_a_graph c = λ taken names g upward. some_bound g upward taken names
