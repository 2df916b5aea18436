use Rattle.std.proofs.Common.{ℕ, List, [], All, map, ap, sym, subst, ◌∙◌}
use Rattle.hz_checked.specs.Shape.{automaton_of}
use Rattle.hz_description_model.specs.Check.CheckedShape.{ask_names}
use Rattle.hz_mdread.specs.Shape.{description}
use Rattle.hz_pipeline_model.specs.Pipelines.Pipelines.{pipeline_with}
use Rattle.hz_replay.specs.Traces.{events_in, lines_in}
use Rattle.hz_reasons.specs.Walking.{taken, AreAsked}
use Rattle.hz_reasons.proofs.FrontierSteps.{if_ok_then}
use Rattle.hz_explain.specs.Answering.{names_at}
use Rattle.hz_explain.specs.Naming.{AsksUnits}
use Rattle.hz_explain.proofs.NamingLaws.{asks_apart}
use Rattle.hz_explain.proofs.WholeLaws.{queries_are, trace_is}
use Rattle.hz_explain.proofs.whole.answer.Goals as goal

pub query_names-requires : goal.query_names-requires
query_names-requires c =
    let apart = asks_apart (description c.args.desc.now) c.args.parts.now c.requires.parts c.requires.formed in
    subst (All AsksUnits) (sym c.deref.ensures.value) (λ i a inside. (apart i a inside).units)

pub returns : goal.returns
returns c = if_ok_then _ _ c.answer_replay.result c.answer_replay.ensures.replays (λ text reported is plan are chooses asked.
    let d = description c.args.desc.now in
    let es = c.args.events.now in
    let refused = c.args.walked.now.refused in
    let units = ap names_at c.deref-3.ensures.value ∙ (c.in_ok-units.ensures ∙ ap (λ xs. map ask_names (map automaton_of xs)) c.deref.ensures.value) in
    let trace = trace_is d c.args.parts.now is c.deref-2.result.now (names_at c.deref-3.result.now) (events_in es) (c.deref-2.ensures.value ∙ c.in_ok-classes.ensures) units c.requires.classes c.requires.asks in
    reported d is.known plan trace are chooses
    (subst (λ (qs : List (List ℕ)). AreAsked (pipeline_with d is.known) qs [] (lines_in (taken refused es)) (events_in (taken refused es)) c.args.walked.now.asked.items) (queries_are d c.args.parts.now is) asked))
