-- After `cycle_limit` cycles what is accepted is what is accepted from the start.
use Rattle.std.proofs.Common.{◌≡◌, ℕ, ◌+◌, ◌-◌, ◌<◌, ◌≤◌, ⊎_elim, List, [], ◌∷◌, ◌++◌, map, refl, sym, ap, ◌∙◌, subst, append_assoc, arith, inl, inr}
use Rattle.std.specs.Prelude.{◌↔◌}
use Rattle.hz_base_model.specs.Limits.{cycle_limit}
use Rattle.hz_pipeline_model.specs.Accepting.Events.{Event, advance}
use Rattle.hz_pipeline_model.specs.Accepting.Replay.{Pipeline, Accepted, FirstRefused, start}
use Rattle.hz_pipeline_model.proofs.Accepting.AcceptanceLaws.{advance_accepted, advances_accepted, accepted_or_refused}
use Rattle.hz_pipeline_model.proofs.Accepting.PlayLaws.{accepted_or_first_refused}
use Rattle.hz_pipeline_model.proofs.Accepting.ReplayLaws.{accepted_from_runs}
use Rattle.hz_pipeline_model.proofs.Accepting.Rows.{same_unit, places_tell}
use Rattle.hz_description_model.specs.Reservations.Automata.{UnitPlace}
use Rattle.hz_description_model.specs.Reading.Descriptions.{Description}
use Rattle.hz_description_model.specs.Reading.DescriptionShape.{IsCheckable}
use Rattle.hz_description_model.specs.Check.CheckFaults.{IsSound}
use Rattle.hz_description_model.specs.Check.CheckedParts.{automaton_count, automata_of, class_parts, bypass_parts, attributes_of}
use Rattle.hz_description_model.specs.Check.Places.{Known}
use Rattle.hz_description_model.proofs.Check.KeptLaws.{parts_kept}
use Rattle.hz_pipeline_model.specs.Pipelines.Pipelines.{pipeline_with}
use Rattle.hz_pipeline_model.specs.Compiling.AutomatonPipelines.{automaton_pipeline}
use Rattle.hz_pipeline_model.proofs.Compiling.DescriptionLaws.{automata_count}
use Rattle.hz_pipeline_model.proofs.Compiling.FactoredLaws.{accepted_in_automata}
use Rattle.hz_block_model.proofs.Settling.RunLaws.{settled, accepted_after}
use Rattle.hz_block_model.proofs.Settling.SettleLaws.{short_pipeline}
use Rattle.hz_pipeline_model.proofs.Decidable.DecidedLaws.{IsDecided}

module _ (d : Description) (known : Known) where
  abbrev machine : Pipeline UnitPlace
  machine = pipeline_with d known

  pub accepted_reported : (t : List Event) → IsDecided (Accepted machine t)
  accepted_reported t = ⊎_elim
      (λ (accepted : Accepted machine t). inl accepted)
      (λ (refused : (i : ℕ) × FirstRefused machine t i). inr (λ accepted. accepted_or_refused machine t refused.0 accepted refused.1))
      (accepted_or_first_refused same_unit places_tell machine t)

  pub accepted_nothing : Accepted machine []
  accepted_nothing = accepted_from_runs machine [] (start, refl)

  module _ (formed : IsCheckable d) (sound : IsSound d known) where
    abbrev machine_of : ℕ → Pipeline ℕ
    machine_of a = automaton_pipeline d.options (automata_of d) (map (class_parts d known) d.classes) a

    -- in each automaton
    after_in : (t u : List Event) → Accepted machine (settled t) → (a : ℕ) → a < automaton_count d → Accepted (machine_of a) (settled t ++ u) ↔ Accepted (machine_of a) u
    after_in t u accepted a low =
        let count = automata_count d in
        let kept = parts_kept d known formed sound in
        accepted_after (machine_of a) (short_pipeline d.options (automata_of d) (map (class_parts d known) d.classes) (map (bypass_parts d) d.bypasses) (attributes_of d) kept a (omega arith)) t u
        ((accepted_in_automata d known sound (settled t)).0 accepted a low)

    beyond : (t u : List Event) → Accepted machine (settled t) → Accepted machine (settled t ++ u) ↔ Accepted machine u
    beyond t u accepted = (
      λ h. (accepted_in_automata d known sound u).1 (λ a low. (after_in t u accepted a low).0 ((accepted_in_automata d known sound (settled t ++ u)).0 h a low)),
      λ h. (accepted_in_automata d known sound (settled t ++ u)).1 (λ a low. (after_in t u accepted a low).1 ((accepted_in_automata d known sound u).0 h a low)),
    )

    -- events after a while, with the while in two
    parts_of_while : (t u : List Event) (n : ℕ) → cycle_limit ≤ n → Accepted machine (settled (t ++ advance (n - cycle_limit) ∷ []) ++ u) ↔ Accepted machine (t ++ advance n ∷ u)
    parts_of_while t u n long =
        let whole : (n - cycle_limit) + cycle_limit ≡ n = omega arith in
        let same : t ++ advance (n - cycle_limit) ∷ advance cycle_limit ∷ u ≡ settled (t ++ advance (n - cycle_limit) ∷ []) ++ u =
        sym (ap (λ (v : List Event). v ++ u) (append_assoc t (advance (n - cycle_limit) ∷ []) (advance cycle_limit ∷ [])) ∙ append_assoc t (advance (n - cycle_limit) ∷ advance cycle_limit ∷ []) u) in
        subst (λ (m : ℕ). Accepted machine (settled (t ++ advance (n - cycle_limit) ∷ []) ++ u) ↔ Accepted machine (t ++ advance m ∷ u)) whole
        (subst (λ (v : List Event). Accepted machine v ↔ Accepted machine (t ++ advance ((n - cycle_limit) + cycle_limit) ∷ u)) same (advances_accepted machine (n - cycle_limit) cycle_limit t u))

    -- after accepted events and a while the same is accepted as from the start
    pub after_while : (t u : List Event) (n : ℕ) → cycle_limit ≤ n → Accepted machine t → Accepted machine (t ++ advance n ∷ u) ↔ Accepted machine u
    after_while t u n long accepted =
        let front = t ++ advance (n - cycle_limit) ∷ [] in
        let quiet = beyond front u (advance_accepted machine front cycle_limit (advance_accepted machine t (n - cycle_limit) accepted)) in
        let joined = parts_of_while t u n long in
        (λ h. quiet.0 (joined.1 h), λ h. joined.0 (quiet.1 h))
