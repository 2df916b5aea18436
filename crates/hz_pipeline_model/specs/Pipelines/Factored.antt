-- Pipelines of several automata side by side. This profile, docs/RULES.md, 'Automata and lists'.
use Rattle.std.specs.Prelude.{◌↔◌, ℕ, ◌<◌, List}
use Rattle.std.specs.List.{Contains}
use Rattle.hz_base_model.specs.Pairs.{Pair}
use Rattle.hz_description_model.specs.Reservations.Automata.{UnitPlace, inside, cut}
use Rattle.hz_pipeline_model.specs.Accepting.Replay.{State}

-- The pairs are, as a set, those of the grids of so many automata together, each with the units of its automaton.
abbrev pub IsUnion : ℕ → (grids : ℕ → List (Pair ℕ)) → List (Pair UnitPlace) → Type 0
IsUnion count grids pairs = (p : Pair UnitPlace) → Contains pairs p ↔ ((p.unit.automaton < count) × Contains (grids p.unit.automaton) (inside p))

-- what stands reserved in an automaton
abbrev pub state_in : ℕ → State UnitPlace → State ℕ
state_in automaton s = record { reserved = cut automaton s.reserved; now = s.now }
