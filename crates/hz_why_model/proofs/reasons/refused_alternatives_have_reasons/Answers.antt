use Rattle.hz_why_model.proofs.Taking.{refused_named}
use Rattle.hz_why_model.proofs.reasons.refused_alternatives_have_reasons.Goals as goal

pub returns : goal.returns
returns g c = λ same tells unit_cmp total exact m t choices k i a is refused there. refused_named same tells m unit_cmp total exact t choices k i a is refused there
