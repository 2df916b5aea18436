-- The order of the units of all automata: this profile, docs/RULES.md, 'Lower bounds'. Law: `of_equal_loads_the_first_unit_is_named`.
use Rattle.std.specs.Prelude.{◌≡◌, ◌⊎◌, ◌<◌}
use Rattle.hz_description_model.specs.Reservations.Automata.{UnitPlace}

-- the automaton of the first unit comes before that of the second, or both are in one, and the first has the lesser number there
abbrev pub ComesBefore : UnitPlace → UnitPlace → Type 0
ComesBefore u v = (u.automaton < v.automaton) ⊎ ((u.automaton ≡ v.automaton) × (u.unit < v.unit))
