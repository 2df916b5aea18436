use Rattle.hz_description_model.proofs.Reading.DescriptionLaws.{one_description}
use Rattle.hz_description_model.proofs.descriptions.one_description.Goals as goal

pub returns : goal.returns
returns c = one_description
