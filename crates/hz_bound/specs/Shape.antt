-- What the code holds of a lower bound and of what it is of, as what the definitions speak of.
use Rattle.std.specs.Prelude.{ℕ, ◌<◌, List, [], map, length, All, Option, Some, None, slice_index_or}
use Rattle.std.specs.Option.{option_map}
use Rattle.hz_base_model.specs.Pairs.{Pair}
use Rattle.hz_checked.specs.declared.checked.Checked.{Checked}
use Rattle.hz_checked.specs.declared.checked.CheckedClass.{CheckedClass}
use Rattle.hz_checked.specs.Shape.{automaton_of, class_of}
use Rattle.hz_depend.specs.declared.parts.Graph.{Graph}
use Rattle.hz_measure_model.specs.Bounds.Bounds.{UnitLoad}
use Rattle.hz_measure_model.specs.Bounds.Bounds as model
use Rattle.hz_bound.specs.declared.parts.Load.{Load}
use Rattle.hz_bound.specs.declared.parts.Bound.{Bound}

-- the names of the units, automaton by automaton
abbrev pub names_of : Checked → List (List (List ℕ))
names_of checked = map (λ a. a.units) (map automaton_of checked.automata.items)

-- the lists of classes, for each automaton
abbrev pub lists_in : List CheckedClass → List (List (List (List (Pair ℕ))))
lists_in classes = map (λ c. c.lists) (map class_of classes)

-- a unit and its load
abbrev pub load_of : Load → UnitLoad
load_of l = record { unit = record { automaton = l.automaton; unit = l.unit }; load = record { count = l.count; span = l.span; value = l.value } }

-- a bound
abbrev pub bound_of : Bound → model.Bound
bound_of b = record { path = b.path; chain = b.chain.items; load = option_map load_of b.load; value = b.value }

-- the unit of a load is one of those that have these names
abbrev pub IsAmong : List (List (List ℕ)) → Option Load → Type 0
IsAmong names None = Unit {0}
IsAmong names (Some l) = (l.automaton < length names) × (l.unit < length (slice_index_or names l.automaton []))

-- The chain is of instructions of the graph, and the load of a unit of the description.
pub record IsInRange (checked : Checked) (graph : Graph) (b : Bound) : Type 0 where
  pub chain : All (λ place. place < length graph.insns.items) b.chain.items
  pub unit : IsAmong (names_of checked) b.load
