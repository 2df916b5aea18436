use Rattle.std.proofs.Common.{◌≡◌, ℕ, List, ◌++◌, length, ap, ◌∙◌}
use Rattle.std.proofs.lemmas.List.{length-map}
use Rattle.hz_why_model.specs.Groups.{first_place, leaders, groups_from}
use Rattle.hz_explain.specs.Grouping.{alike_in, group_reported}
use Rattle.hz_explain.specs.Telling.{wording_in}
use Rattle.hz_reasons.specs.declared.plan.SetStatement.{SetStatement}
use Rattle.hz_explain.proofs.groups.add_alternatives.Goals as goal

pub add_groups-requires : goal.add_groups-requires
add_groups-requires c =
    ap length (c.deref-2.ensures.value ∙ c.in_ok-leaders.ensures) ∙ length-map c.args.reasons.now (λ reason. first_place (alike_in c.deref.result.now reason) c.args.reasons.now)

pub returns : goal.returns
returns c =
    let led : ◌≡◌ {A = List ℕ} c.deref-2.result.now (leaders (alike_in c.args.plan.now.sets.items) c.args.reasons.now) =
    ◌∙◌ {A = List ℕ} c.deref-2.ensures.value (◌∙◌ {A = List ℕ} c.in_ok-leaders.ensures (ap (λ (sets : List SetStatement). leaders (alike_in sets) c.args.reasons.now) c.deref.ensures.value)) in
    ◌∙◌ {A = List ℕ} c.in_ok-add_groups.ensures (ap (λ (ls : List ℕ). c.args.text.now.items ++ groups_from (group_reported (wording_in c.args.desc.now c.args.parts.now) c.args.plan.now c.args.issues.now) ls 0 c.args.reasons.now) led)
