use Rattle.hz_measure_model.proofs.Bounds.BoundLaws.{chain_of_bound}
use Rattle.hz_measure_model.proofs.bound_laws.chains_cost_their_path.Goals as goal

pub returns : goal.returns
returns c = chain_of_bound
