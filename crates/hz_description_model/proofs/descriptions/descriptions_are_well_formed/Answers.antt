use Rattle.hz_description_model.proofs.Reading.DescriptionFormedAll.{well_formed}
use Rattle.hz_description_model.proofs.descriptions.descriptions_are_well_formed.Goals as goal

pub returns : goal.returns
returns c = well_formed
