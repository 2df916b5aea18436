use Rattle.hz_description_model.proofs.Reading.DescriptionLaws.{description_or_fault}
use Rattle.hz_description_model.proofs.descriptions.description_or_fault.Goals as goal

pub returns : goal.returns
returns c = description_or_fault
