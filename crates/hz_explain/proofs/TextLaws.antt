-- The whole texts.
use Rattle.std.proofs.Common.{◌≡◌, ℕ, List, [], ◌∷◌, map, Option, refl, sym, ap, ◌∙◌}
use Rattle.std.specs.List.{concat, flat_map}
use Rattle.std.specs.Option.{option_map}
use Rattle.hz_check.specs.declared.parts.Parts.{Parts}
use Rattle.hz_check.specs.Parts.{IsPartsOf}
use Rattle.hz_description_model.specs.Reservations.Automata.{UnitPlace, place_cmp}
use Rattle.hz_mdread.specs.Shape.{description}
use Rattle.hz_mdread.specs.declared.description.Description.{Description}
use Rattle.hz_pipeline_model.specs.Accepting.Events.{Event, cycles_of}
use Rattle.hz_pipeline_model.specs.Accepting.Replay.{Pipeline, alternatives_at, calendar}
use Rattle.hz_why_model.specs.Answers.{wording_of}
use Rattle.hz_why_model.specs.Explanations.{Wording, choice_line, wait_line, alternative_lines, pair_lists, picture_after, refusal_text, left_text}
use Rattle.hz_why_model.specs.Holders.{Entry, entries}
use Rattle.hz_why_model.specs.Reasons.{reason_of, same_place}
use Rattle.hz_why_model.specs.Takes.{takes_lines}
use Rattle.hz_reasons.specs.Breaking.{reason_at}
use Rattle.hz_reasons.specs.Holding.{AreHolders}
use Rattle.hz_reasons.specs.Plans.{choices_at, IsWide, IsPlanOf}
use Rattle.hz_explain.specs.Grouping.{alternatives_reported}
use Rattle.hz_explain.specs.Taking.{takes_reported}
use Rattle.hz_explain.specs.Telling.{wording_in, choice_reported}
use Rattle.hz_explain.specs.Ways.{issues_reported}
use Rattle.hz_reasons.specs.declared.holders.Holder.{Holder}
use Rattle.hz_reasons.specs.declared.plan.Choice.{Choice}
use Rattle.hz_reasons.specs.declared.plan.Plan.{Plan}
use Rattle.hz_reasons.specs.declared.reasons.Reason.{Reason}
use Rattle.hz_explain.proofs.GroupingLaws.{lines_are}
use Rattle.hz_explain.proofs.TakingLaws.{takes_are}
use Rattle.hz_explain.proofs.TellLaws.{choice_is, reported_in_all}
use Rattle.hz_explain.proofs.WayLaws.{ways_are}
use Rattle.hz_explain.proofs.WordLaws.{wording_is}

-- the texts of a refusal, of which four are the same as others
same_texts : (choice wait alternatives takes issues drawn choice' alternatives' takes' issues' : List ℕ) → choice ≡ choice' → alternatives ≡ alternatives' → takes ≡ takes' → issues ≡ issues'
    → concat (choice ∷ wait ∷ alternatives ∷ takes ∷ issues ∷ drawn ∷ []) ≡ concat (choice' ∷ wait ∷ alternatives' ∷ takes' ∷ issues' ∷ drawn ∷ [])
same_texts choice wait alternatives takes issues drawn choice' alternatives' takes' issues' a b c d =
    ap (λ (l : List ℕ). concat (l ∷ wait ∷ alternatives ∷ takes ∷ issues ∷ drawn ∷ [])) a
    ∙ ap (λ (l : List ℕ). concat (choice' ∷ wait ∷ l ∷ takes ∷ issues ∷ drawn ∷ [])) b
    ∙ ap (λ (l : List ℕ). concat (choice' ∷ wait ∷ alternatives' ∷ l ∷ issues ∷ drawn ∷ [])) c
    ∙ ap (λ (l : List ℕ). concat (choice' ∷ wait ∷ alternatives' ∷ takes' ∷ l ∷ drawn ∷ [])) d

module _ (d : Description) (parts : Parts) (are_parts : IsPartsOf (description d) parts) (m : Pipeline UnitPlace) (plan : Plan) (is : IsPlanOf m plan)
    (t : List Event) (lines choices : List ℕ) (issues : List Holder) (are : AreHolders m t lines choices issues) where
  abbrev w : Wording UnitPlace
  w = wording_in d parts

  choice_here : choice_reported plan.any_fit ≡ choice_line m.treatment
  choice_here = choice_is plan.any_fit ∙ ap choice_line (sym is.treatment)

  pub refusal_is : (wide : IsWide plan) (k : ℕ) (wait : Option ℕ) (rs : List (Option Reason)) (cs : List Choice) → choices_at plan k ≡ cs
      → map (option_map (reason_at m.statements (cycles_of t))) rs ≡ map (reason_of same_place place_cmp m.statements (calendar m 0 t choices) (cycles_of t)) (alternatives_at m k)
      → concat (choice_reported plan.any_fit ∷ wait_line wait ∷ alternatives_reported w plan issues rs ∷ takes_reported w.unit cs ∷ issues_reported w.class issues ∷ picture_after w m t lines choices (flat_map (λ a. a.pairs) (alternatives_at m k)) ∷ [])
      ≡ refusal_text (wording_of (description d)) m t lines choices k wait
  refusal_is wide k wait rs cs here same =
      let held : List (Entry UnitPlace) = entries m 0 t lines choices in
      let drawn : List ℕ = picture_after w m t lines choices (flat_map (λ a. a.pairs) (alternatives_at m k)) in
      let reported = lines_are w (cycles_of t) held plan issues m.statements is.sets (reported_in_all m plan is t lines choices issues are) (λ a b. refl) rs ∙ ap (alternative_lines w (cycles_of t) held m.statements) same in
      let taken : takes_reported w.unit cs ≡ takes_lines w.same w.unit (pair_lists w m t lines choices k) = ap (takes_reported w.unit) (sym here) ∙ takes_are m plan is wide k w.unit in
      same_texts (choice_reported plan.any_fit) (wait_line wait) (alternatives_reported w plan issues rs) (takes_reported w.unit cs) (issues_reported w.class issues) drawn _ _ _ _
      choice_here reported taken (ways_are w m t lines choices issues are)
      ∙ ap (λ (v : Wording UnitPlace). refusal_text v m t lines choices k wait) (wording_is d parts are_parts)

  pub left_is : concat (choice_reported plan.any_fit ∷ issues_reported w.class issues ∷ picture_after w m t lines choices [] ∷ []) ≡ left_text (wording_of (description d)) m t lines choices
  left_is =
      let drawn : List ℕ = picture_after w m t lines choices [] in
      ap (λ (l : List ℕ). concat (l ∷ issues_reported w.class issues ∷ drawn ∷ [])) choice_here
      ∙ ap (λ (l : List ℕ). concat (choice_line m.treatment ∷ l ∷ drawn ∷ [])) (ways_are w m t lines choices issues are)
      ∙ ap (λ (v : Wording UnitPlace). left_text v m t lines choices) (wording_is d parts are_parts)
