use Rattle.std.proofs.Common.{ℕ, List, [], ◌++◌, sym, ap, subst, ◌∙◌}
use Rattle.hz_reasons.specs.Holding.{AreHolders}
use Rattle.hz_reasons.specs.declared.holders.Holder.{Holder}
use Rattle.hz_explain.specs.Telling.{class_name, choice_reported}
use Rattle.hz_explain.specs.Ways.{issues_reported}
use Rattle.hz_explain.proofs.ShowLaws.{ask_none}
use Rattle.hz_explain.proofs.Joining.{joined_three}
use Rattle.hz_explain.proofs.TextLaws.{left_is}
use Rattle.hz_explain.proofs.explaining.tell_left.Goals as goal

pub returns : goal.returns
returns c = λ m t lines choices is are.
    let there = subst (λ (hs : List Holder). AreHolders m t lines choices hs) (sym c.deref-2.ensures.value) are in
    let same = c.deref.ensures.value ∙ sym c.deref-2.ensures.value in
    joined_three [] c.add_choice.new.text.items c.add_ways.new.text.items c.add_shown.new.text.items _ _ _
    (c.in_ok-add_choice.ensures ∙ ap (λ (l : List ℕ). l ++ choice_reported c.args.plan.now.any_fit) c.new-text.ensures.items)
    (c.in_ok-add_ways.ensures ∙ ap (λ (hs : List Holder). c.add_choice.new.text.items ++ issues_reported (class_name c.args.desc.now) hs) same)
    (c.in_ok-add_shown.ensures m t lines choices [] is there ask_none)
    ∙ left_is c.args.desc.now c.args.parts.now c.requires.parts m c.args.plan.now is t lines choices c.deref-2.result.now there
