use Rattle.std.proofs.Common.{◌≡◌, map, take}
use Rattle.std.specs.Option.{option_map}
use Rattle.hz_description_model.specs.Reservations.Automata.{UnitPlace, place_cmp}
use Rattle.hz_pipeline_model.specs.Accepting.Replay.{Pipeline, State, alternatives_at}
use Rattle.hz_why_model.specs.Reasons.{reason_of, same_place}
use Rattle.hz_reasons.specs.Breaking.{reason_at}
use Rattle.hz_reasons.specs.Plans.{AreFuture, IsPlanOf}
use Rattle.hz_explain.proofs.telling.reasons.Given as goal

abbrev pub invariant-loop-number : goal.invariant-loop-number
invariant-loop-number l = (m : Pipeline UnitPlace) (s : State UnitPlace) → IsPlanOf m l.plan → AreFuture l.calendar.grids.items s
    → map (option_map (reason_at m.statements s.now)) l.reasons.items ≡ map (reason_of same_place place_cmp m.statements s.reserved s.now) (take l.number (alternatives_at m l.class))
