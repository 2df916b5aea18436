-- Lists of alternatives: how many they are, how long and how large, and which lists a description can have. GCC Internals,
-- 'Specifying processor pipeline description'; the limits are this profile's, docs/RULES.md, 'Limits'.
use Rattle.std.specs.Prelude.{ℕ, ◌+◌, ◌<◌, ◌≤◌, min, max, List, [], ◌∷◌, Option, Some, None, length, nat_lt, All, if◌then◌else◌}
use Rattle.hz_base_model.specs.Limits.{automaton_limit, unit_limit, cycle_limit}
use Rattle.hz_description_model.specs.Reservations.Limits.{alternative_limit}
use Rattle.hz_base_model.specs.Pairs.{Pair, IsAscendingBy}
use Rattle.hz_description_model.specs.Reservations.Alternatives.{Alternative}
use Rattle.hz_description_model.specs.Reservations.Automata.{UnitPlace, place_cmp, total_size}

-- for how many cycles the longest runs
abbrev pub greatest_length : {U : Type 0} → List (Alternative U) → ℕ
greatest_length [] = 0
greatest_length (first ∷ others) = max first.cycles (greatest_length others)

-- How many alternatives there are and for how many cycles the longest runs, each reported up to one above its limit.
pub record Extent : Type 0 where
  pub count : ℕ
  pub longest : ℕ

-- the extent of alternatives
abbrev pub extent_of : {U : Type 0} → List (Alternative U) → Extent
extent_of alternatives = record { count = min (length alternatives) (alternative_limit + 1); longest = min (greatest_length alternatives) (cycle_limit + 1) }

-- A limit that alternatives pass: by their number, by the length of one, or by their size together.
pub data Excess : Type 0 where
  too_many too_long too_large : Excess

-- the first limit that they pass, where they may have no more than so many cycles and pairs together
abbrev pub excess_of : ℕ → List (Alternative UnitPlace) → Option Excess
excess_of most alternatives =
    if nat_lt alternative_limit (length alternatives) then Some too_many
    else (if nat_lt cycle_limit (greatest_length alternatives) then Some too_long
    else (if nat_lt most (total_size alternatives) then Some too_large else None))

-- each pair precedes all later ones, so that none stands twice
abbrev pub IsAscending : List (Pair UnitPlace) → Type 0
IsAscending = IsAscendingBy place_cmp

-- an alternative that a description can have: it runs for some cycle, its pairs lie within its cycles, and its units are
-- some that automata can have
pub record IsPlaced (a : Alternative UnitPlace) : Type 0 where
  pub runs : 0 < a.cycles
  pub within : All (λ p. p.cycle < a.cycles) a.pairs
  pub automata : All (λ p. p.unit.automaton < automaton_limit) a.pairs
  pub units : All (λ p. p.unit.unit < unit_limit) a.pairs

-- such an alternative, not too long, and listed the one way
pub record IsSound (a : Alternative UnitPlace) : Type 0 where
  pub placed : IsPlaced a
  pub short : a.cycles ≤ cycle_limit
  pub ascending : IsAscending a.pairs

-- some such alternatives, not too many
pub record AreSound (alternatives : List (Alternative UnitPlace)) : Type 0 where
  pub some : 0 < length alternatives
  pub few : length alternatives ≤ alternative_limit
  pub each : All IsSound alternatives

-- an alternative that can be cut down to grids: its units and cycles are some that a grid can have
pub record IsCuttable (a : Alternative UnitPlace) : Type 0 where
  pub units : All (λ p. p.unit.unit < unit_limit) a.pairs
  pub cycles : All (λ p. p.cycle < cycle_limit) a.pairs
