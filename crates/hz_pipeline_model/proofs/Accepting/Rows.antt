-- Facts of acceptance by computation.
use Rattle.std.proofs.Common.{◌≡◌, ℕ, ◌+◌, Bool, true, false, List, [], ◌∷◌, length, take, Contains, sym, ap, ◌∙◌, subst}
use Rattle.std.specs.Prelude.{◌↔◌, IsTrue, IsFalse, ◌==◌, ◌&&◌, nat_lt}
use Rattle.std.proofs.lemmas.Bool.{eqb-true, eq-eqb, ltb-true, both_ways}
use Rattle.std.proofs.lemmas.Bool.Decides.{Decides-and, Decides-eqb}
use Rattle.hz_base_model.proofs.Elements.{Contains-head}
use Rattle.hz_description_model.specs.Reservations.Automata.{UnitPlace}
use Rattle.hz_pipeline_model.specs.Accepting.Replay.{Pipeline, State, start, first_fit, Accepted, FirstRefused}
use Rattle.hz_pipeline_model.specs.Accepting.Events.{Event}
use Rattle.hz_pipeline_model.specs.Accepting.Asking.{IsHeld}
use Rattle.hz_pipeline_model.specs.Accepting.Plays.{Tells, has, plays, accepts}
use Rattle.hz_pipeline_model.proofs.Accepting.PlayLaws.{has_decides, plays_run, accepts_decides}
use Rattle.hz_pipeline_model.proofs.Accepting.AskLaws.{held_by_run}

pub numbers_tell : Tells ◌==◌
numbers_tell u v = (eqb-true u v, eq-eqb u v)

pub accepted : (m : Pipeline ℕ) (t : List Event) → IsTrue (accepts ◌==◌ m t) → Accepted m t
accepted m t h = (accepts_decides ◌==◌ numbers_tell m t).0 h

pub first_refused : (m : Pipeline ℕ) (t : List Event) (i : ℕ) → IsTrue (nat_lt i (length t)) → IsTrue (accepts ◌==◌ m (take i t)) → IsFalse (accepts ◌==◌ m (take (i + 1) t)) → FirstRefused m t i
first_refused m t i within before refused = record {
  within = ltb-true i (length t) within;
  before = accepted m (take i t) before;
  refused = λ h. both_ways _ refused ((accepts_decides ◌==◌ numbers_tell m (take (i + 1) t)).1 h);
}

-- whether two units are the same
abbrev pub same_unit : UnitPlace → UnitPlace → Bool
same_unit u v = u.automaton == v.automaton && u.unit == v.unit

pub places_tell : Tells same_unit
places_tell u v =
    let both = Decides-and (u.automaton == v.automaton) (u.unit == v.unit) (Decides-eqb u.automaton v.automaton) (Decides-eqb u.unit v.unit) in (
      λ h. let is = both.0 h in ap (λ (a : ℕ). record { automaton = a; unit = u.unit }) is.0 ∙ ap (λ (n : ℕ). record { automaton = v.automaton; unit = n }) is.1,
      λ e. both.1 (ap (λ (w : UnitPlace). w.automaton) e, ap (λ (w : UnitPlace). w.unit) e),
    )

-- what is held is computed by the one state that the events leave
held_at : (m : Pipeline ℕ) (t : List Event) (u : ℕ) (s : State ℕ) → m.treatment ≡ first_fit → plays (λ x y. x == y) m start t ≡ s ∷ [] → IsHeld m t u ↔ Contains s.reserved (record { unit = u; cycle = s.now })
held_at m t u s first left = held_by_run m first t s (plays_run (λ x y. x == y) Decides-eqb m t start s (subst (λ (qs : List (State ℕ)). Contains qs s) (sym left) (Contains-head s []))) u

pub held : (m : Pipeline ℕ) (t : List Event) (u : ℕ) (s : State ℕ) → m.treatment ≡ first_fit → plays (λ x y. x == y) m start t ≡ s ∷ [] → has (λ x y. x == y) s.reserved (record { unit = u; cycle = s.now }) ≡ true → IsHeld m t u
held m t u s first left is = (held_at m t u s first left).1 ((has_decides (λ x y. x == y) Decides-eqb s.reserved (record { unit = u; cycle = s.now })).0 is)

pub free : (m : Pipeline ℕ) (t : List Event) (u : ℕ) (s : State ℕ) → m.treatment ≡ first_fit → plays (λ x y. x == y) m start t ≡ s ∷ [] → has (λ x y. x == y) s.reserved (record { unit = u; cycle = s.now }) ≡ false → IsHeld m t u → ⊥
free m t u s first left is h = both_ways _ is ((has_decides (λ x y. x == y) Decides-eqb s.reserved (record { unit = u; cycle = s.now })).1 ((held_at m t u s first left).0 h))
