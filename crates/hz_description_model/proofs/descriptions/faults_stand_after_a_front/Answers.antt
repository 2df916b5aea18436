use Rattle.hz_description_model.proofs.Reading.AddedLaws.{stands_after, fault_there}
use Rattle.hz_description_model.proofs.descriptions.faults_stand_after_a_front.Goals as goal

pub returns : goal.returns
returns c = λ forms fault line. (stands_after forms fault line, fault_there forms fault line)
