-- The text of a lower bound: this profile, docs/FORMATS.md, 'Answers'.
use Rattle.std.specs.Prelude.{ℕ, List, [], ◌∷◌, ◌++◌, codes, decimal, map, slice_index, slice_index_or, Option, Some, None}
use Rattle.std.specs.List.{concat, flat_map}
use Rattle.hz_description_model.specs.Reading.Descriptions.{Description}
use Rattle.hz_description_model.specs.Reservations.Automata.{UnitPlace}
use Rattle.hz_block_model.specs.Running.Blocks.{Instruction}
use Rattle.hz_block_model.specs.Scheduling.Schedules.{Slot, present}
use Rattle.hz_measure_model.specs.Bounds.Loads.{Load}
use Rattle.hz_measure_model.specs.Bounds.Bounds.{unit_names, UnitLoad, Bound}

-- a number after a space
abbrev pub number_field : ℕ → List ℕ
number_field n = concat (codes " " ∷ decimal n ∷ [])

-- the greatest tail
abbrev pub path_word : ℕ → List ℕ
path_word path = concat (codes "path " ∷ decimal path ∷ [])

-- the same, and the numbers of the instructions of its chain
abbrev pub path_line : ℕ → List ℕ → List ℕ
path_line path numbers = path_word path ++ (flat_map number_field numbers ++ codes "\n")

-- a unit and its load
abbrev pub load_line : List ℕ → Load → List ℕ
load_line unit l = concat (codes "load " ∷ unit ∷ codes " " ∷ decimal l.count ∷ codes " " ∷ decimal l.span ∷ codes " " ∷ decimal l.value ∷ codes "\n" ∷ [])

-- no unit that an instruction can't do without
abbrev pub no_load_line : List ℕ
no_load_line = codes "load -\n"

-- the bound
abbrev pub bound_line : ℕ → List ℕ
bound_line value = concat (codes "bound " ∷ decimal value ∷ codes "\n" ∷ [])

-- the last cycle of the schedule
abbrev pub cycles_line : ℕ → List ℕ
cycles_line cycles = concat (codes "schedule " ∷ decimal cycles ∷ codes " cycles\n" ∷ [])

-- the name of a unit, where these are the names of the units of each automaton
abbrev pub unit_name : List (List (List ℕ)) → UnitPlace → List ℕ
unit_name names u = slice_index_or (slice_index_or names u.automaton []) u.unit []

-- the line of the greatest load
abbrev pub heaviest_line : List (List (List ℕ)) → Option UnitLoad → List ℕ
heaviest_line names None = no_load_line
heaviest_line names (Some l) = load_line (unit_name names l.unit) l.load

-- the text of a bound, by the names of the units, the numbers of the instructions and the last cycle of the schedule
abbrev pub bound_text : List (List (List ℕ)) → List ℕ → Bound → ℕ → List ℕ
bound_text names numbers b cycles = path_line b.path (map (slice_index numbers) b.chain) ++ (heaviest_line names b.load ++ (bound_line b.value ++ cycles_line cycles))

-- the same of a block by its description and its schedule
abbrev pub text_of_bound : Description → List Instruction → Bound → List Slot → List ℕ
text_of_bound d block b slots = bound_text (unit_names d) (map (λ i. i.number) block) b (present 0 slots)
