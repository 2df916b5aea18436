use Rattle.hz_laws.proofs.Sizes.CountSizes.{lines_most}
use Rattle.hz_laws.proofs.size_laws.lines_are_short.Goals as goal

pub returns : goal.returns
returns c = λ options automata classes m reports nothing machine is hidden. lines_most options automata classes m reports is nothing machine hidden
