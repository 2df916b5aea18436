use Rattle.hz_why_laws.proofs.GroupLaws.{leading_leads, leads_leading, leading_ascend, texts_are}
use Rattle.hz_why_laws.proofs.groups.texts_are_those_of_groups.Goals as goal

pub returns : goal.returns
returns g c = record {
  places = λ alike items place. (leading_leads alike items place, leads_leading alike items place);
  order = leading_ascend;
  texts = λ alike text items. texts_are alike items text;
}
