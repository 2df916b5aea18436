use Rattle.hz_block_model.proofs.Settling.SettleLaws.{machine_settles}
use Rattle.hz_block_model.proofs.settling_laws.compiled_machines_settle.Goals as goal

pub returns : goal.returns
returns c = λ options automata classes bypasses attributes m reports kept nothing machine compiled. machine_settles options automata classes bypasses attributes kept nothing m reports machine compiled
