use Rattle.std.proofs.Common.{ap, subst, sym, ◌∙◌, ◌++◌}
use Rattle.hz_pipeline_model.specs.Accepting.Replay.{left_by}
use Rattle.hz_why_model.specs.Answers.{wording_of}
use Rattle.hz_why_model.specs.Explanations.{refusal_text}
use Rattle.hz_mdread.specs.Shape.{description}
use Rattle.hz_reasons.specs.Frontiers.{first_of}
use Rattle.hz_reasons.specs.Holding.{AreHolders}
use Rattle.hz_explain.specs.Telling.{AreReasons}
use Rattle.hz_explain.proofs.explaining.tell_refusal.Goals as goal

pub reasons-requires-clause-each : goal.reasons-requires-clause-each
reasons-requires-clause-each c = c.first.ensures.each c.args.plan.now c.requires.entries

pub returns : goal.returns
returns c = λ m t lines is frontier are.
    let k = c.args.class in
    let choices = (first_of c.args.frontier).choices in
    let here = subst (AreHolders m t lines choices) (sym c.deref.ensures.value) are in
    let chosen = c.first.ensures.chosen m t frontier in
    let reported = subst (AreReasons m (left_by m t choices) k) (sym c.deref-2.ensures.value) (c.in_ok-reasons.ensures m (left_by m t choices) is chosen.stands.future) in (
      c.in_ok-wait.wait,
      c.in_ok-wait.ensures m t is frontier,
      c.in_ok-add_refusal.ensures m t lines choices is reported here ∙ ap (λ xs. xs ++ refusal_text (wording_of (description c.args.desc.now)) m t lines choices k c.in_ok-wait.wait) c.new-text.ensures.items,
    )
