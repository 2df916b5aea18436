-- What is chosen for the issues of a trace.
use Rattle.std.specs.Prelude.{ℕ, List}
use Rattle.hz_base_model.specs.Pairs.{Pair}
use Rattle.hz_description_model.specs.Reservations.Automata.{UnitPlace}
use Rattle.hz_pipeline_model.specs.Accepting.Events.{Event}
use Rattle.hz_pipeline_model.specs.Accepting.Replay.{Pipeline, IsChoice, left_by}
use Rattle.hz_reasons.specs.Plans.{Stands}

-- The events are accepted by the choices, and the grids are what these leave.
pub record HasChosen (m : Pipeline UnitPlace) (t : List Event) (choices : List ℕ) (grids : List (List (Pair ℕ))) : Type 0 where
  pub choice : IsChoice m t choices
  pub stands : Stands m grids (left_by m t choices)
