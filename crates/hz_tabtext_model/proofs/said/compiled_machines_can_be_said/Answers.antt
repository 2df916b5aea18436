use Rattle.hz_tabtext_model.proofs.CompiledSaid.{can_be_said}
use Rattle.hz_tabtext_model.proofs.said.compiled_machines_can_be_said.Goals as goal

pub returns : goal.returns
returns c = λ options automata classes bypasses attributes m reports kept machine is. can_be_said options automata classes bypasses attributes kept m reports machine is
