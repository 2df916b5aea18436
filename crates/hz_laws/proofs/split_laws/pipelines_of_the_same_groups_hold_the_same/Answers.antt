use Rattle.hz_laws.proofs.Grouping.GroupRuns.{held_by_groups}
use Rattle.hz_laws.proofs.split_laws.pipelines_of_the_same_groups_hold_the_same.Goals as goal

pub returns : goal.returns
returns g c = held_by_groups
