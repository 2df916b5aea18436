use Rattle.hz_why_model.specs.Groups.{leaders}
use Rattle.hz_why_laws.proofs.GroupLaws.{ascending, group_has, group_holds}
use Rattle.hz_why_laws.proofs.groups.groups_have_what_is_alike.Goals as goal

pub returns : goal.returns
returns g c = record {
  ascend = λ alike items place. ascending place 1 (leaders alike items);
  members = λ alike is items place first at leads number. (group_has alike is items place first at leads number, group_holds alike is items place first at leads number);
}
