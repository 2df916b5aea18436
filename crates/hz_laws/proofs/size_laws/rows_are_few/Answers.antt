use Rattle.hz_laws.proofs.Sizes.CountSizes.{rows_low}
use Rattle.hz_laws.proofs.size_laws.rows_are_few.Goals as goal

pub returns : goal.returns
returns c = λ options automata classes m reports nothing machine is. rows_low options automata classes m reports is nothing machine
