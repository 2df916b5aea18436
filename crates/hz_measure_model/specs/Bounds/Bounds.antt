-- A lower bound on the last cycle of every legal schedule, with what shows it. This profile, docs/RULES.md, 'Lower bounds'. Law:
-- `no_schedule_is_shorter_than_its_bound`.
use Rattle.std.specs.Prelude.{◌≡◌, ℕ, suc, max, nat_lt, if◌then◌else◌, List, [], ◌∷◌, ◌++◌, map, length, Option, Some, None}
use Rattle.std.specs.List.{filter_map, range_with_len}
use Rattle.std.specs.Option.{option_map}
use Rattle.hz_description_model.specs.Check.CheckedParts.{automata_of}
use Rattle.hz_description_model.specs.Check.Places.{Known}
use Rattle.hz_description_model.specs.Reading.Descriptions.{Description}
use Rattle.hz_description_model.specs.Reservations.Automata.{UnitPlace}
use Rattle.hz_pipeline_model.specs.Pipelines.Pipelines.{pipeline_with}
use Rattle.hz_block_model.specs.Scheduling.Schedules.{Graph}
use Rattle.hz_block_model.specs.Scheduled.BlockGraphs.{classes_of}
use Rattle.hz_measure_model.specs.Bounds.Paths.{greatest, AreTails, IsChain}
use Rattle.hz_measure_model.specs.Bounds.Loads.{Load, ways, load_of}

-- ---- units

-- the names of the units of a description, automaton by automaton
abbrev pub unit_names : Description → List (List (List ℕ))
unit_names d = map (λ a. a.units) (automata_of d)

-- the units of an automaton, of which there are so many
abbrev pub units_of : ℕ → ℕ → List UnitPlace
units_of automaton count = map (λ unit. record { automaton = automaton; unit = unit }) (range_with_len 0 count)

-- the units that have these names, in automata of which the first has this number
abbrev pub units_from : ℕ → List (List (List ℕ)) → List UnitPlace
units_from automaton [] = []
units_from automaton (names ∷ more) = units_of automaton (length names) ++ units_from (suc automaton) more

-- ---- the greatest load

-- a unit and its load
pub record UnitLoad : Type 0 where
  pub unit : UnitPlace
  pub load : Load

-- the loads of units in their order, by the cycles in which each alternative of each class takes each
abbrev pub loads_of : (UnitPlace → ℕ → List (List ℕ)) → List UnitPlace → List ℕ → List UnitLoad
loads_of taken units classes = filter_map (λ u. option_map (λ l. record { unit = u; load = l }) (load_of (taken u) classes)) units

-- the one of the greater value, of equal ones the first
abbrev pub heavier : Option UnitLoad → Option UnitLoad → Option UnitLoad
heavier None other = other
heavier (Some l) None = Some l
heavier (Some l) (Some o) = if nat_lt l.load.value o.load.value then Some o else Some l

-- the first of the greatest value
abbrev pub heaviest : List UnitLoad → Option UnitLoad
heaviest [] = None
heaviest (l ∷ ls) = heavier (Some l) (heaviest ls)

-- ---- the bound

-- A bound: the greatest tail with its chain, the load of the greatest value, and the greater of both.
pub record Bound : Type 0 where
  pub path : ℕ
  pub chain : List ℕ
  pub load : Option UnitLoad
  pub value : ℕ

-- The bound of a graph whose classes take units so. `unit_names` are those of all units.
pub record IsBoundBy (taken : UnitPlace → ℕ → List (List ℕ)) (names : List (List (List ℕ))) (g : Graph) (b : Bound) : Type 0 where
  pub tails : List ℕ
  pub are : AreTails g tails
  pub path : b.path ≡ greatest tails
  pub chain : IsChain g tails b.chain
  pub load : b.load ≡ heaviest (loads_of taken (units_from 0 names) (classes_of g))
  pub value : b.value ≡ max b.path (greatest (map (λ l. l.load.value) (loads_of taken (units_from 0 names) (classes_of g))))

-- The bound of a graph by a description.
abbrev pub IsBoundOf : Description → Known → Graph → Bound → Type 0
IsBoundOf d known g b = IsBoundBy (ways (pipeline_with d known)) (unit_names d) g b
