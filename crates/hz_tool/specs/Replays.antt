-- What the library's `replay` answers for a description, over any list of events.
use Rattle.std.specs.Prelude.{◌≡◌, ◌↔◌, ⊤, ℕ, List, Option, Some, None}
use Rattle.hz_pipeline_model.specs.Accepting.Events.{Event, issues_of, cycles_of}
use Rattle.hz_pipeline_model.specs.Accepting.Replay as accepting
use Rattle.hz_description_model.specs.Reservations.Automata.{UnitPlace}
use Rattle.hz_replay.specs.declared.outcome.Outcome.{Outcome}
use Rattle.hz_replay.specs.declared.outcome.Outcome.TheVariants.{Accepted, Refused}

-- the place of the event that is refused, if one is
abbrev pub refused_at : Outcome → Option ℕ
refused_at (Accepted issues cycles) = None
refused_at (Refused event) = Some event

-- what is accepted is counted
abbrev pub IsCounted : List Event → Outcome → Type 0
IsCounted t (Accepted issues cycles) = (issues ≡ issues_of t) × (cycles ≡ cycles_of t)
IsCounted t (Refused event) = ⊤

-- All events are accepted exactly when the pipeline accepts them, and are counted; an event is refused exactly when it is the first that
-- the pipeline does not accept.
pub record IsReplayOf (p : accepting.Pipeline UnitPlace) (t : List Event) (outcome : Outcome) : Type 0 where
  pub accepts : refused_at outcome ≡ None ↔ accepting.Accepted p t
  pub counted : IsCounted t outcome
  pub refuses : (i : ℕ) → refused_at outcome ≡ Some i ↔ accepting.FirstRefused p t i
