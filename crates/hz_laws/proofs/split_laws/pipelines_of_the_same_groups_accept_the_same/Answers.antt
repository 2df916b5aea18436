use Rattle.hz_laws.proofs.Grouping.GroupRuns.{accepted_by_groups, refused_by_groups, choice_there}
use Rattle.hz_laws.proofs.split_laws.pipelines_of_the_same_groups_accept_the_same.Goals as goal

pub returns-clause-acceptance : goal.returns-clause-acceptance
returns-clause-acceptance g c = accepted_by_groups

pub returns-clause-refused : goal.returns-clause-refused
returns-clause-refused g c = refused_by_groups

pub returns-clause-choices : goal.returns-clause-choices
returns-clause-choices g c = choice_there
