use Rattle.hz_tabtext_model.proofs.MachineLaws.{text_machine}
use Rattle.hz_tabtext_model.proofs.tables.texts_stand_for_machines.Goals as goal

pub returns : goal.returns
returns c = text_machine
