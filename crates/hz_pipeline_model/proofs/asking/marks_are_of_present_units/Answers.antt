use Rattle.hz_pipeline_model.proofs.Asks.PresentLaws.{marks_present}
use Rattle.hz_pipeline_model.proofs.asking.marks_are_of_present_units.Goals as goal

pub returns : goal.returns
returns c = marks_present
