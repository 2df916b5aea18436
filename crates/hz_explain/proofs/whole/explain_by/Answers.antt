use Rattle.std.proofs.Common.{ℕ, ◌≤◌, List, ap, sym, subst, ◌∙◌, ◌++◌, arith}
use Rattle.hz_front_model.specs.Replays.{Replays}
use Rattle.hz_front_model.specs.Asks.{held_in, trace_names}
use Rattle.hz_mdread.specs.Shape.{description}
use Rattle.hz_pipeline_model.specs.Pipelines.Pipelines.{pipeline_with}
use Rattle.hz_replay.specs.Traces.{events_in, lines_in}
use Rattle.hz_explain.proofs.WholeLaws.{asks_of_numbers, classes_named, lists_of_classes, status_low}
use Rattle.hz_explain.proofs.whole.explain_by.Goals as goal

pub walk_parts-requires-clause-classes : goal.walk_parts-requires-clause-classes
walk_parts-requires-clause-classes c = classes_named (description c.args.desc.now) c.args.parts.now c.requires.parts _ (events_in c.args.events.now) (omega (arith, c.requires.lists, c.args.parts.now.lists.ok.0)) c.requires.classes

pub walk_parts-requires-clause-asks : goal.walk_parts-requires-clause-asks
walk_parts-requires-clause-asks c = asks_of_numbers (description c.args.desc.now) c.args.parts.now c.requires.parts (events_in c.args.events.now) c.requires.asks

pub answer-requires-clause-classes : goal.answer-requires-clause-classes
answer-requires-clause-classes c = classes_named (description c.args.desc.now) c.args.parts.now c.requires.parts _ (events_in c.args.events.now) (sym (lists_of_classes (description c.args.desc.now) c.args.parts.now c.requires.parts)) c.requires.classes

pub answer-requires-clause-asks : goal.answer-requires-clause-asks
answer-requires-clause-asks c = asks_of_numbers (description c.args.desc.now) c.args.parts.now c.requires.parts (events_in c.args.events.now) c.requires.asks

pub why-requires-clause-classes : goal.why-requires-clause-classes
why-requires-clause-classes c = classes_named (description c.args.desc.now) c.args.parts.now c.requires.parts _ (events_in c.args.events.now) (omega (arith, c.requires.lists, c.args.parts.now.lists.ok.0)) c.requires.classes

pub returns-clause-low : goal.returns-clause-low
returns-clause-low c = subst (λ (n : ℕ). n ≤ 1) (sym c.status-status.ensures) (status_low c.in_ok-walked.walked.refused)

pub returns-clause-explains : goal.returns-clause-explains
returns-clause-explains c = λ is plan.
    let d = description c.args.desc.now in
    let m = pipeline_with d is.known in
    let es = c.args.events.now in
    let chooses = c.in_ok-walked.ensures.chooses m plan in
    let replays = c.in_ok-text.ensures is c.args.plan.now c.in_ok-walked.ensures.entries chooses (c.in_ok-walked.ensures.asked m plan) in (
      c.in_ok-text.text.items,
      c.in_ok-why.why.items,
      subst (λ (status : ℕ). Replays m (held_in d is.known) (trace_names d) (lines_in es) (events_in es) status c.in_ok-text.text.items) (sym c.status-status.ensures) replays,
      c.in_ok-why.ensures m plan chooses,
      c.in_ok-add.ensures ∙ ap (λ (why : List ℕ). c.in_ok-text.text.items ++ why) c.deref.ensures.value,
    )
