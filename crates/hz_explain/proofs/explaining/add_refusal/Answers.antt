use Rattle.std.proofs.Common.{◌≡◌, ℕ, List, ◌++◌, sym, ap, subst, ◌∙◌, arith}
use Rattle.std.specs.List.{flat_map}
use Rattle.hz_pipeline_model.specs.Accepting.Replay.{alternatives_at}
use Rattle.hz_reasons.specs.Plans.{choices_at}
use Rattle.hz_reasons.specs.declared.plan.Choice.{Choice}
use Rattle.hz_reasons.proofs.Reading.{choices_read}
use Rattle.hz_explain.specs.Showing.{AskFor}
use Rattle.hz_explain.proofs.ShowLaws.{ask_class}
use Rattle.hz_explain.proofs.Joining.{joined_six}
use Rattle.hz_explain.proofs.TextLaws.{refusal_is}
use Rattle.hz_explain.proofs.explaining.add_refusal.Goals as goal

pub returns : goal.returns
returns c = λ m t lines choices is reasons are.
    let plan = c.args.plan.now in
    let k = c.args.class in
    let cs = c.as_slice-choices.result.now in
    let here : choices_at plan k ≡ cs = choices_read plan k c.index.result.now c.index.ensures (omega arith) ∙ sym c.as_slice-choices.ensures.value in
    let ask = subst (λ (cs : List Choice). AskFor cs (flat_map (λ a. a.pairs) (alternatives_at m k))) here (ask_class m plan is k) in
    joined_six c.args.text.now.items c.add_choice.new.text.items c.add_wait.new.text.items c.add_alternatives.new.text.items c.add_takes.new.text.items c.add_ways.new.text.items c.add_shown.new.text.items _ _ _ _ _ _
    c.in_ok-add_choice.ensures c.in_ok-add_wait.ensures c.in_ok-add_alternatives.ensures c.in_ok-add_takes.ensures c.in_ok-add_ways.ensures
    (c.in_ok-add_shown.ensures m t lines choices (flat_map (λ a. a.pairs) (alternatives_at m k)) is are ask)
    ∙ ap (λ (l : List ℕ). c.args.text.now.items ++ l) (refusal_is c.args.desc.now c.args.parts.now c.requires.parts m plan is t lines choices c.args.issues.now are c.requires.wide k c.args.wait c.args.reasons.now cs here reasons)
