use Rattle.hz_measure_model.proofs.Bounds.BoundLaws.{bound_of_block}
use Rattle.hz_measure_model.proofs.bound_laws.no_schedule_is_shorter_than_its_bound.Goals as goal

pub returns : goal.returns
returns c = bound_of_block
