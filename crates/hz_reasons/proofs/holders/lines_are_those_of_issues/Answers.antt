use Rattle.hz_reasons.proofs.ExtentLaws.{lines_held}
use Rattle.hz_reasons.proofs.holders.lines_are_those_of_issues.Goals as goal

pub returns : goal.returns
returns c = lines_held
