-- Classes with their lists, where each has its alternatives beside it.
use Rattle.std.specs.Prelude.{ℕ, List, [], ◌∷◌, map}
use Rattle.std.specs.List.{range_with_len}
use Rattle.hz_description_model.specs.Reservations.Alternatives.{Alternative}
use Rattle.hz_description_model.specs.Reservations.Automata.{UnitPlace, list_in}
use Rattle.hz_description_model.specs.Check.CheckedParts.{ClassParts}
use Rattle.hz_description_model.specs.Reading.Descriptions.{ClassItem}
use Rattle.hz_base_model.specs.Pairs.{Pair}

-- the list of each of so many automata
abbrev pub lists_in : ℕ → List (Alternative UnitPlace) → List (List (List (Pair ℕ)))
lists_in automata alts = map (λ automaton. list_in automaton alts) (range_with_len 0 automata)

-- a class of these alternatives
abbrev pub class_with : ℕ → List (Alternative UnitPlace) → ClassItem → ClassParts
class_with automata alts c = record { name = c.name; line = c.line; latency = c.latency; condition = c.condition; lists = lists_in automata alts }

-- classes, each with its alternatives
abbrev pub classes_with : ℕ → List (List (Alternative UnitPlace)) → List ClassItem → List ClassParts
classes_with automata (alts ∷ others) (c ∷ classes) = class_with automata alts c ∷ classes_with automata others classes
classes_with automata _ _ = []
