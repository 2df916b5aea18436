-- A moved pipeline accepts the same events, by the same choices.
use Rattle.std.proofs.Common.{◌≡◌, ℕ, ◌+◌, List, [], ◌∷◌, ◌++◌, length, take, map, Option, Some, None, refl, sym, ap, ◌∙◌, subst, arith, slice_get, slice_index}
use Rattle.std.specs.Prelude.{◌↔◌}
use Rattle.std.specs.Option.{option_map}
use Rattle.std.proofs.lemmas.Option.{slice_get-map}
use Rattle.std.proofs.lemmas.List.{length-map, map-append}
use Rattle.hz_base_model.specs.Pairs.{Pair, placed}
use Rattle.hz_description_model.specs.Reservations.Alternatives.{Alternative}
use Rattle.hz_description_model.specs.Reservations.Sets.{Holds, Fits}
use Rattle.hz_pipeline_model.specs.Accepting.Events.{Event, issue, advance, ask, issues_of, cycles_of}
use Rattle.hz_pipeline_model.specs.Accepting.Replay.{first_fit, ChoiceFirst, Class, Pipeline, State, FitsAt, MayTake, IsChoice, Accepted, FirstRefused, alternatives_at, of_class, chosen, pairs_at, calendar, left_by}
use Rattle.hz_pipeline_model.specs.Accepting.Asking.{IsHeld}
use Rattle.hz_laws.specs.Moving.{IsHeldLater, moved_pair, moved_pairs, moved_alternative, moved_class, moved, IsLate, MayMove}
use Rattle.hz_laws.proofs.Moving.FitLaws.{holds_moved, late_nil, late_append, late_placed, moved_placed, fits_moved}

module _ {U : Type 0} (earlier : U → ℕ) (m : Pipeline U) where
  abbrev o : Pipeline U
  o = moved earlier m

  alternatives_moved : (k : ℕ) → alternatives_at o k ≡ map (moved_alternative earlier) (alternatives_at m k)
  alternatives_moved k = ap of_class (slice_get-map (moved_class earlier) m.classes k) ∙ by_class (slice_get m.classes k)
    where
      by_class : (c : Option (Class U)) → of_class (option_map (moved_class earlier) c) ≡ map (moved_alternative earlier) (of_class c)
      by_class None = refl
      by_class (Some c) = refl

  as_many : (k : ℕ) → length (alternatives_at o k) ≡ length (alternatives_at m k)
  as_many k = ap length (alternatives_moved k) ∙ length-map (alternatives_at m k) (moved_alternative earlier)

  chosen_moved : (k i : ℕ) → chosen o k i ≡ moved_pairs earlier (chosen m k i)
  chosen_moved k i =
      ap (λ (options : List (Alternative U)). pairs_at (slice_get options i)) (alternatives_moved k)
      ∙ (ap pairs_at (slice_get-map (moved_alternative earlier) (alternatives_at m k) i) ∙ by_item (slice_get (alternatives_at m k) i))
    where
      by_item : (a : Option (Alternative U)) → pairs_at (option_map (moved_alternative earlier) a) ≡ moved_pairs earlier (pairs_at a)
      by_item None = refl
      by_item (Some a) = refl

  module _ (may : MayMove earlier m) where
    calendar_late : (now : ℕ) (t : List Event) (choices : List ℕ) → IsLate earlier (calendar m now t choices)
    calendar_late now [] choices = late_nil earlier
    calendar_late now (advance n ∷ t) choices = calendar_late (n + now) t choices
    calendar_late now (ask a u ∷ t) choices = calendar_late now t choices
    calendar_late now (issue k ∷ t) [] = late_nil earlier
    calendar_late now (issue k ∷ t) (i ∷ choices) = late_append earlier (placed now (chosen m k i)) (calendar m now t choices)
        (late_placed earlier now (chosen m k i) (may.late k i)) (calendar_late now t choices)

    -- the calendar moves with the pipeline
    pub calendar_moved : (now : ℕ) (t : List Event) (choices : List ℕ) → calendar o now t choices ≡ moved_pairs earlier (calendar m now t choices)
    calendar_moved now [] choices = refl
    calendar_moved now (advance n ∷ t) choices = calendar_moved (n + now) t choices
    calendar_moved now (ask a u ∷ t) choices = calendar_moved now t choices
    calendar_moved now (issue k ∷ t) [] = refl
    calendar_moved now (issue k ∷ t) (i ∷ choices) =
        let here : placed now (chosen o k i) ≡ moved_pairs earlier (placed now (chosen m k i)) = ap (placed now) (chosen_moved k i) ∙ moved_placed earlier now (chosen m k i) (may.late k i) in
        ap (λ (ps : List (Pair U)). ps ++ calendar o now t choices) here
        ∙ (ap (λ (ps : List (Pair U)). moved_pairs earlier (placed now (chosen m k i)) ++ ps) (calendar_moved now t choices)
        ∙ sym (map-append (moved_pair earlier) (placed now (chosen m k i)) (calendar m now t choices)))

    -- a state with what stands reserved moved
    abbrev moved_state : State U → State U
    moved_state s = record { reserved = moved_pairs earlier s.reserved; now = s.now }

    left_moved : (t : List Event) (choices : List ℕ) → left_by o t choices ≡ moved_state (left_by m t choices)
    left_moved t choices = ap (λ (ps : List (Pair U)). record { reserved = ps; now = cycles_of t }) (calendar_moved 0 t choices)

    module _ (s : State U) (late : IsLate earlier s.reserved) (k : ℕ) where
      both : (i : ℕ) → Fits m.statements s.reserved (chosen m k i) s.now ↔ Fits m.statements (moved_pairs earlier s.reserved) (moved_pairs earlier (chosen m k i)) s.now
      both i = fits_moved earlier m.statements may.tied s.reserved (chosen m k i) s.now late (may.late k i)

      fit_there : (i : ℕ) → FitsAt m s k i → FitsAt o (moved_state s) k i
      fit_there i h = (omega (arith, h.0, as_many k), subst (λ (ps : List (Pair U)). Fits m.statements (moved_pairs earlier s.reserved) ps s.now) (sym (chosen_moved k i)) ((both i).0 h.1))

      fit_back : (i : ℕ) → FitsAt o (moved_state s) k i → FitsAt m s k i
      fit_back i h = (omega (arith, h.0, as_many k), (both i).1 (subst (λ (ps : List (Pair U)). Fits m.statements (moved_pairs earlier s.reserved) ps s.now) (chosen_moved k i) h.1))

      take_there : (i : ℕ) → MayTake m s k i → MayTake o (moved_state s) k i
      take_there i h = record { fits = fit_there i h.fits; first = λ t j low fit. h.first t j low (fit_back j fit) }

      take_back : (i : ℕ) → MayTake o (moved_state s) k i → MayTake m s k i
      take_back i h = record { fits = fit_back i h.fits; first = λ t j low fit. h.first t j low (fit_there j fit) }

    choice_there : (t : List Event) (choices : List ℕ) → IsChoice m t choices → IsChoice o t choices
    choice_there t choices h = record {
      each = h.each;
      may = λ before after k parts.
          subst (λ (s : State U). MayTake o s k (slice_index choices (issues_of before))) (sym (left_moved before choices))
          (take_there (left_by m before choices) (calendar_late 0 before choices) k _ (h.may before after k parts));
    }

    choice_back : (t : List Event) (choices : List ℕ) → IsChoice o t choices → IsChoice m t choices
    choice_back t choices h = record {
      each = h.each;
      may = λ before after k parts.
          take_back (left_by m before choices) (calendar_late 0 before choices) k _
          (subst (λ (s : State U). MayTake o s k (slice_index choices (issues_of before))) (left_moved before choices) (h.may before after k parts));
    }

    pub choices_moved : (t : List Event) (choices : List ℕ) → IsChoice m t choices ↔ IsChoice o t choices
    choices_moved t choices = (choice_there t choices, choice_back t choices)

    pub accepted_moved : (t : List Event) → Accepted m t ↔ Accepted o t
    accepted_moved t = (λ h. (h.0, choice_there t h.0 h.1), λ h. (h.0, choice_back t h.0 h.1))

    pub refused_moved : (t : List Event) (i : ℕ) → FirstRefused m t i ↔ FirstRefused o t i
    refused_moved t i = (
      λ h. record { within = h.within; before = (accepted_moved (take i t)).0 h.before; refused = λ k. h.refused ((accepted_moved (take (i + 1) t)).1 k) },
      λ h. record { within = h.within; before = (accepted_moved (take i t)).1 h.before; refused = λ k. h.refused ((accepted_moved (take (i + 1) t)).0 k) },
    )

-- the pipeline in the first treatment may be moved as well
first_may : {U : Type 0} (earlier : U → ℕ) (m : Pipeline U) → MayMove earlier m → MayMove earlier (record m { treatment = first_fit })
first_may earlier m may = record { late = may.late; tied = may.tied }

module _ {U : Type 0} (earlier : U → ℕ) (m : Pipeline U) (may : MayMove earlier m) where
  -- a unit is held in the moved pipeline where it is reserved so many cycles later
  pub held_moved : (t : List Event) (unit : U) → IsHeldLater m t unit (earlier unit) ↔ IsHeld (moved earlier m) t unit
  held_moved t unit = (there, back)
    where
      same : (choices : List ℕ) → ChoiceFirst m t choices ↔ ChoiceFirst (moved earlier m) t choices
      same choices = choices_moved earlier (record m { treatment = first_fit }) (first_may earlier m may) t choices

      pairs : (choices : List ℕ) → Holds (calendar (moved earlier m) 0 t choices) (cycles_of t) unit ↔ Holds (calendar m 0 t choices) (earlier unit + cycles_of t) unit
      pairs choices = rw (calendar_moved earlier m may 0 t choices) (holds_moved earlier (calendar m 0 t choices) (calendar_late earlier m may 0 t choices) (cycles_of t) unit)

      there : IsHeldLater m t unit (earlier unit) → IsHeld (moved earlier m) t unit
      there h = (h.0, (same h.0).0 h.1, (pairs h.0).1 h.2)

      back : IsHeld (moved earlier m) t unit → IsHeldLater m t unit (earlier unit)
      back h = (h.0, (same h.0).1 h.1, (pairs h.0).0 h.2)

  -- a unit that stays is held as before
  pub held_stays : (t : List Event) (unit : U) → earlier unit ≡ 0 → IsHeld m t unit ↔ IsHeld (moved earlier m) t unit
  held_stays t unit stays =
      let now : earlier unit + cycles_of t ≡ cycles_of t = omega (arith, stays) in (
        λ h. (held_moved t unit).0 (h.0, h.1, subst (λ (c : ℕ). Holds (calendar m 0 t h.0) c unit) (sym now) h.2),
        λ h.
            let later = (held_moved t unit).1 h in
            (later.0, later.1, subst (λ (c : ℕ). Holds (calendar m 0 t later.0) c unit) now later.2),
      )
