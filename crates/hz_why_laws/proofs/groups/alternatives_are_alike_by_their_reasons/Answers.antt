use Rattle.hz_why_laws.proofs.AlikeLaws.{alike_is_same, group_by_reason}
use Rattle.hz_why_laws.proofs.groups.alternatives_are_alike_by_their_reasons.Goals as goal

pub returns : goal.returns
returns g c = record {
  same = alike_is_same;
  group = λ same tells reasons place reason at leads i low. group_by_reason same tells reasons place reason at leads i;
}
