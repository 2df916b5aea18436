use Rattle.std.proofs.Common.{refl}
use Rattle.hz_mdread.specs.Shape.{description}
use Rattle.hz_reasons.proofs.FrontierSteps.{if_ok_then}
use Rattle.hz_explain.proofs.whole.explain.Goals as goal

pub returns-clause-explains : goal.returns-clause-explains
returns-clause-explains c = if_ok_then _ _ c.explain_by.result c.explain_by.ensures.explains (λ explained reported is. reported is (c.in_ok-plan.ensures.plan (description c.args.desc.now) is refl))
