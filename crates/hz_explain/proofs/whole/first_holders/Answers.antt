use Rattle.std.proofs.Common.{ℕ, List, sym, subst, ◌∙◌}
use Rattle.hz_why_model.specs.Choices.{IsFirstChoice}
use Rattle.hz_replay.specs.Traces.{events_in, lines_in}
use Rattle.hz_reasons.specs.Holding.{AreHolders}
use Rattle.hz_reasons.proofs.FrontierSteps.{if_ok_then}
use Rattle.hz_explain.proofs.whole.first_holders.Goals as goal

pub returns-clause-first : goal.returns-clause-first
returns-clause-first c = if_ok_then _ _ c.hold.result c.hold.ensures (λ holders reported m is frontier.
    let t = events_in c.args.events.now in
    subst (IsFirstChoice m t) c.in_ok-choices.ensures.list (c.in_ok-choices.ensures.first m t c.args.plan.now c.requires.entries frontier))

pub returns-clause-holders : goal.returns-clause-holders
returns-clause-holders c = if_ok_then _ _ c.hold.result c.hold.ensures (λ holders reported m is frontier.
    let t = events_in c.args.events.now in
    let first = subst (IsFirstChoice m t) (sym c.deref.ensures.value) (c.in_ok-choices.ensures.first m t c.args.plan.now c.requires.entries frontier) in
    subst (λ (choices : List ℕ). AreHolders m t (lines_in c.args.events.now) choices holders.issues.items) (c.deref.ensures.value ∙ c.in_ok-choices.ensures.list) (reported m is first.choice))
