use Rattle.hz_claims_laws.proofs.WrittenDescriptions.{description_back}
use Rattle.hz_claims_laws.proofs.file_laws.files_say_the_descriptions_that_they_write.Goals as goal

pub returns : goal.returns
returns c = description_back
