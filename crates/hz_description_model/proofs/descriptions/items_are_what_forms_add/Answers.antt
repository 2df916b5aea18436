use Rattle.hz_description_model.proofs.Reading.AddedLaws.{items_added}
use Rattle.hz_description_model.proofs.descriptions.items_are_what_forms_add.Goals as goal

pub returns : goal.returns
returns c = items_added
