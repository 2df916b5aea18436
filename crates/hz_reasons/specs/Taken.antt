-- Units that are held, and pairs that stand reserved, as tests.
use Rattle.std.specs.Prelude.{◌==◌, ℕ, Bool, List}
use Rattle.hz_base_model.specs.Pairs.{Pair}
use Rattle.hz_description_model.specs.Reservations.Automata.{UnitPlace}
use Rattle.hz_pipeline_model.specs.Accepting.Plays.{has}
use Rattle.hz_reasons.specs.Calendars.{at}
use Rattle.hz_reasons.specs.declared.plan.Place.{Place}

-- whether the unit is held in the cycle, by the pairs of each automaton
abbrev pub is_held : List (List (Pair ℕ)) → (cycle : ℕ) → UnitPlace → Bool
is_held grids cycle u = has ◌==◌ (at grids u.automaton) (record { unit = u.unit; cycle = cycle })

-- whether the pair stands reserved in its automaton
abbrev pub is_reserved : List (List (Pair ℕ)) → Place → Bool
is_reserved grids p = has ◌==◌ (at grids p.automaton) (record { unit = p.unit; cycle = p.cycle })
