use Rattle.hz_determ.proofs.LateLemmas.{grids_above, grids_most, states_above, states_no_more}
use Rattle.hz_determ.proofs.worked.a_late_unit_leaves_four_states.Goals as goal

pub returns-clause-more_than_three_grids : goal.returns-clause-more_than_three_grids
returns-clause-more_than_three_grids c = grids_above

pub returns-clause-four_grids : goal.returns-clause-four_grids
returns-clause-four_grids c = grids_most

pub returns-clause-more_than_three_states : goal.returns-clause-more_than_three_states
returns-clause-more_than_three_states c = states_above

pub returns-clause-not_more_than_four : goal.returns-clause-not_more_than_four
returns-clause-not_more_than_four c = states_no_more
