use Rattle.hz_measure_model.proofs.Bounds.ListLaws.{bound_by_lists}
use Rattle.hz_measure_model.proofs.Bounds.WayLaws.{load_of_lists}
use Rattle.hz_measure_model.proofs.bound_laws.bounds_are_of_lists.Goals as goal

pub returns-clause-loads : goal.returns-clause-loads
returns-clause-loads c = load_of_lists

pub returns-clause-bounds : goal.returns-clause-bounds
returns-clause-bounds c = bound_by_lists
