-- Two pipelines of the same groups run alike.
use Rattle.std.proofs.Common.{◌≡◌, ℕ, ◌+◌, List, [], ◌∷◌, ◌++◌, take, refl, sym, ap, ◌∙◌, subst}
use Rattle.std.specs.Prelude.{◌↔◌}
use Rattle.hz_base_model.specs.Pairs.{SamePairs, placed}
use Rattle.hz_description_model.proofs.Reservations.SamePairsLaws.{same_append, same_placed}
use Rattle.hz_pipeline_model.specs.Accepting.Events.{Event, issue, advance, ask}
use Rattle.hz_pipeline_model.specs.Accepting.Replay.{first_fit, Pipeline, State, start, MayTake, Step, Plays, IsChoice, Accepted, FirstRefused, chosen, calendar, left_by}
use Rattle.hz_pipeline_model.specs.Accepting.Asking.{IsHeld}
use Rattle.hz_pipeline_model.proofs.Accepting.AskLaws.{by_first}
use Rattle.hz_pipeline_model.proofs.Accepting.ReplayLaws.{chosen_run, run_of_choices, runs_from_accepted, accepted_from_runs}
use Rattle.hz_laws.specs.Grouping.{GroupLists, AreOfGroups}
use Rattle.hz_laws.proofs.Grouping.GroupTakes.{take_there, groups_back}

-- as much is reserved, in the same cycle
record AreAlike {U : Type 0} (s q : State U) : Type 0 where
  pairs : SamePairs s.reserved q.reserved
  now : s.now ≡ q.now

module _ {U : Type 0} (group : U → ℕ) (lists : ℕ → GroupLists U) (m o : Pipeline U) (same : AreOfGroups group lists m o) where
  step_there : (e : Event) (s q new : State U) → AreAlike s q → Step m s e new → (other : State U) × Step o q e other × AreAlike new other
  step_there (advance n) s q new alike h = (
    record { reserved = q.reserved; now = n + q.now },
    refl,
    subst (λ (r : State U). AreAlike r (record { reserved = q.reserved; now = n + q.now })) (sym h) (record { pairs = alike.pairs; now = ap (λ (c : ℕ). n + c) alike.now }),
  )
  step_there (ask a u) s q new alike h = (q, refl, subst (λ (r : State U). AreAlike r q) (sym h) alike)
  step_there (issue k) s q new alike (i, taken, e) =
      let found = take_there group lists m o same s.reserved q.reserved s.now alike.pairs k i taken in
      let at : MayTake o q k found.0 = subst (λ (c : ℕ). MayTake o (record { reserved = q.reserved; now = c }) k found.0) alike.now found.1 in
      let all = same_append s.reserved (placed s.now (chosen m k i)) q.reserved (placed s.now (chosen o k found.0)) alike.pairs (same_placed s.now (chosen m k i) (chosen o k found.0) found.2) in (
        record { reserved = q.reserved ++ placed q.now (chosen o k found.0); now = q.now },
        (found.0, at, refl),
        subst (λ (r : State U). AreAlike r (record { reserved = q.reserved ++ placed q.now (chosen o k found.0); now = q.now })) (sym e)
            (record { pairs = subst (λ (c : ℕ). SamePairs (s.reserved ++ placed s.now (chosen m k i)) (q.reserved ++ placed c (chosen o k found.0))) alike.now all; now = alike.now }),
      )

  run_there : (t : List Event) (s q new : State U) → AreAlike s q → Plays m s t new → (other : State U) × Plays o q t other × AreAlike new other
  run_there [] s q new alike h = (q, refl, subst (λ (r : State U). AreAlike r q) (sym h) alike)
  run_there (e ∷ t) s q new alike (middle, first, rest) =
      let one = step_there e s q middle alike first in
      let more = run_there t middle one.0 new one.2 rest in
      (more.0, (one.0, one.1, more.1), more.2)

  from_start : (t : List Event) (new : State U) → Plays m start t new → (other : State U) × Plays o start t other × AreAlike new other
  from_start t new h = run_there t start start new (record { pairs = λ p. (λ x. x, λ x. x); now = refl }) h

  accepted_there : (t : List Event) → Accepted m t → Accepted o t
  accepted_there t h =
      let run = runs_from_accepted m t h in
      let other = from_start t run.0 run.1 in
      accepted_from_runs o t (other.0, other.1)

  pub choice_there : (t : List Event) (choices : List ℕ) → IsChoice m t choices → (others : List ℕ) × IsChoice o t others × SamePairs (calendar m 0 t choices) (calendar o 0 t others)
  choice_there t choices is =
      let other = from_start t (left_by m t choices) (run_of_choices m t choices is) in
      let found = chosen_run o t other.0 other.1 in
      (found.0, found.1, subst (λ (s : State U). SamePairs (calendar m 0 t choices) s.reserved) found.2 other.2.pairs)

  held_there : m.treatment ≡ first_fit → (t : List Event) (unit : U) → IsHeld m t unit → IsHeld o t unit
  held_there first t unit (choices, is, holds) =
      let found = choice_there t choices ((by_first m first t choices).0 is) in
      (found.0, (by_first o (sym same.treatment ∙ first) t found.0).1 found.1, (found.2 _).0 holds)

module _ {U : Type 0} (group : U → ℕ) (lists : ℕ → GroupLists U) (m o : Pipeline U) (same : AreOfGroups group lists m o) where
  pub accepted_by_groups : (t : List Event) → Accepted m t ↔ Accepted o t
  accepted_by_groups t = (accepted_there group lists m o same t, accepted_there group lists o m (groups_back group lists m o same) t)

  pub refused_by_groups : (t : List Event) (i : ℕ) → FirstRefused m t i ↔ FirstRefused o t i
  refused_by_groups t i = (
    λ h. record { within = h.within; before = (accepted_by_groups (take i t)).0 h.before; refused = λ k. h.refused ((accepted_by_groups (take (i + 1) t)).1 k) },
    λ h. record { within = h.within; before = (accepted_by_groups (take i t)).1 h.before; refused = λ k. h.refused ((accepted_by_groups (take (i + 1) t)).0 k) },
  )

  pub held_by_groups : m.treatment ≡ first_fit → (t : List Event) (unit : U) → IsHeld m t unit ↔ IsHeld o t unit
  held_by_groups first t unit = (held_there group lists m o same first t unit, held_there group lists o m (groups_back group lists m o same) (sym same.treatment ∙ first) t unit)
