use Rattle.hz_pipeline_model.proofs.Reaching.LimitLaws.{one_left, states_above_grids, members_above_grids, grids_above_states, grids_above_members}
use Rattle.hz_pipeline_model.proofs.counting.one_grid_in_the_first_treatment.Goals as goal

pub returns-clause-left : goal.returns-clause-left
returns-clause-left g c = one_left

pub returns-clause-states : goal.returns-clause-states
returns-clause-states g c m is columns n = (states_above_grids m is columns n, grids_above_states m is columns n)

pub returns-clause-members : goal.returns-clause-members
returns-clause-members g c m is columns n = (members_above_grids m is columns n, grids_above_members m is columns n)
