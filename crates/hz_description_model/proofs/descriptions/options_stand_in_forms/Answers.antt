use Rattle.hz_description_model.proofs.Reading.OptionLaws.{options_stand}
use Rattle.hz_description_model.proofs.descriptions.options_stand_in_forms.Goals as goal

pub returns : goal.returns
returns c = options_stand
