use Rattle.hz_tabtext_model.proofs.SaidLaws.{said_is_text}
use Rattle.hz_tabtext_model.proofs.said.compiled_texts_stand_for_machines.Goals as goal

pub returns : goal.returns
returns c = said_is_text
