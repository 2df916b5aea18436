use Rattle.hz_description_model.proofs.Reading.DescriptionLaws.{every_list}
use Rattle.hz_description_model.proofs.descriptions.description_of_every_list_of_forms.Goals as goal

pub returns : goal.returns
returns c = every_list
