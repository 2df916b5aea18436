use Rattle.hz_description_model.proofs.Reading.DescriptionLaws.{one_fault_of_descriptions}
use Rattle.hz_description_model.proofs.descriptions.one_fault_of_descriptions.Goals as goal

pub returns : goal.returns
returns c = one_fault_of_descriptions
