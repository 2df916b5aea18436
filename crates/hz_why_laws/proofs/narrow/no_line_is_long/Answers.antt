use Rattle.hz_why_laws.proofs.NarrowLaws.{refusal_narrow, left_narrow}
use Rattle.hz_why_laws.proofs.narrow.no_line_is_long.Goals as goal

pub returns-clause-refusal : goal.returns-clause-refusal
returns-clause-refusal g c = refusal_narrow

pub returns-clause-left : goal.returns-clause-left
returns-clause-left g c = left_narrow
