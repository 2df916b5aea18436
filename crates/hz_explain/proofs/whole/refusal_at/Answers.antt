use Rattle.std.proofs.Common.{List, vec_len, subst}
use Rattle.hz_mdread.specs.Shape.{description}
use Rattle.hz_pipeline_model.specs.Accepting.Events.{Event, IsOfClass}
use Rattle.hz_replay.specs.Lines.{event_of}
use Rattle.hz_replay.specs.declared.event.Event.{Event as TraceEvent}
use Rattle.hz_why_model.specs.Answers.{wording_of}
use Rattle.std.proofs.lemmas.List.{take-map}
use Rattle.hz_reasons.specs.Frontiers.{IsFrontier}
use Rattle.hz_reasons.proofs.FrontierSteps.{if_ok_then}
use Rattle.hz_explain.proofs.WholeLaws.{front_all, refusal_explains}
use Rattle.hz_explain.proofs.whole.refusal_at.Goals as goal

pub refusal-requires-clause-classes : goal.refusal-requires-clause-classes
refusal-requires-clause-classes c = front_all (IsOfClass (vec_len c.args.plan.now.classes)) c.args.events.now c.args.place c.requires.classes

pub returns : goal.returns
returns c = if_ok_then _ _ c.refusal.result c.refusal.ensures (λ text tells m is stops.
    let es = c.args.events.now in
    let i = c.args.place in
    refusal_explains (wording_of (description c.args.desc.now)) m es c.args.frontier i c.class_at-class.result text.items stops c.class_at-class.ensures
    (tells m is (subst (λ (t : List Event). IsFrontier m t c.args.frontier) (take-map (λ (e : TraceEvent). event_of e.what) i es) stops.before)))
