use Rattle.std.proofs.Common.{◌≡◌, ◌++◌, ℕ, List, take, length, ap, ◌∙◌}
use Rattle.std.proofs.lemmas.List.{take_min}
use Rattle.hz_why_model.specs.Groups.{groups_from, group_texts}
use Rattle.hz_explain.specs.Taking.{take_alike, more_reported, line_reported}
use Rattle.hz_explain.specs.Telling.{unit_name}
use Rattle.hz_reasons.specs.declared.plan.Choice.{Choice}
use Rattle.hz_explain.proofs.Joining.{joined_two}
use Rattle.hz_explain.proofs.takes.add_takes.Goals as goal

pub returns : goal.returns
returns c =
    let old : List ℕ = c.args.text.now.items in
    let choices : List Choice = c.args.choices.now in
    let written : List Choice = take c.min.result choices in
    let text : List ℕ → Choice → List ℕ = line_reported (unit_name c.args.parts.now) in
    let more : List ℕ = more_reported (length choices) in
    let shown : take c.min.result choices ≡ take 64 choices = ap (λ (n : ℕ). take n choices) c.min.ensures ∙ take_min 64 choices in
    joined_two old _ _ (groups_from text c.deref.result.now 0 written) more c.in_ok-add_groups.ensures c.in_ok-add_more.ensures
    ∙ (ap (λ (ls : List ℕ). old ++ (groups_from text ls 0 written ++ more)) (c.deref.ensures.value ∙ c.in_ok-leaders.ensures)
    ∙ ap (λ (cs : List Choice). old ++ (group_texts take_alike text cs ++ more)) shown)
