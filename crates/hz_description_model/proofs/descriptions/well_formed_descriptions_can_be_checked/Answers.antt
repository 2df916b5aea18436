use Rattle.hz_description_model.proofs.Reading.CheckableLaws.{can_be_checked}
use Rattle.hz_description_model.proofs.descriptions.well_formed_descriptions_can_be_checked.Goals as goal

pub returns : goal.returns
returns c = can_be_checked
