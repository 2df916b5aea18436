-- Machines of tables: a table for each automaton, stepped side by side. Bala and Rubin, 'Efficient Instruction
-- Scheduling Using Finite State Automata', MICRO-28; what is kept of a machine is this profile's, docs/RULES.md.
use Rattle.std.specs.Prelude.{◌≡◌, ◌≢◌, ℕ, ◌+◌, ◌*◌, ◌<◌, ◌≤◌, List, [], ◌∷◌, ◌++◌, Bool, Option, Some, None, is_some, length, replicate, slice_index_or, All, IsSome}
use Rattle.std.specs.List.{AllPairs, flat_map}
use Rattle.hz_base_model.specs.Limits.{automaton_limit, class_limit, unit_limit}
use Rattle.hz_pipeline_model.specs.Accepting.Events.{Event, issue, advance, ask}
use Rattle.hz_pipeline_model.specs.Tables.StateLimits.{cell_limit}
use Rattle.hz_pipeline_model.specs.Tables.AskColumns.{AsksStay}
use Rattle.hz_pipeline_model.specs.Tables.Tables.{Table, entry, walk, IsTable}

-- One automaton: its name, the column of each class, how many columns the classes have, the names of the units that are asked
-- for, each with a column after those, and its table.
pub record Part : Type 0 where
  pub name : List ℕ
  pub map : List ℕ
  pub columns : ℕ
  pub asks : List (List ℕ)
  pub rows : Table

-- The names of the classes, and a part for each automaton.
pub record Machine : Type 0 where
  pub classes : List (List ℕ)
  pub parts : List Part

-- a part without classes, columns or states: what a machine has where it has no part
abbrev pub no_part : Part
no_part = record { name = []; map = []; columns = 0; asks = []; rows = [] }

-- the part of this number
abbrev pub part_at : Machine → ℕ → Part
part_at m part = slice_index_or m.parts part no_part

-- the column of the advance: after those of the classes and those of the asks
abbrev pub advance_of : Part → ℕ
advance_of part = part.columns + length part.asks

-- the column of a class; a class that isn't there has a column that no row has
abbrev pub column_of : Part → ℕ → ℕ
column_of part class = slice_index_or part.map class (advance_of part + 1)

-- The next state: for a class by its column, and for none by the advance; none where the entry is.
abbrev pub next_of : Part → ℕ → Option ℕ → Option ℕ
next_of part state (Some class) = entry part.rows state (column_of part class)
next_of part state None = entry part.rows state (advance_of part)

-- whether the unit of this number, among those that are asked for, is reserved in a state: its entry is there
abbrev pub tells_reserved : Part → ℕ → ℕ → Bool
tells_reserved part state query = is_some (entry part.rows state (part.columns + query))

-- The columns that events take in a part: an issue takes that of its class, an advance of n cycles the advance n times, and an
-- ask none, so that it leaves the state.
abbrev pub word_of : Part → List Event → List ℕ
word_of part [] = []
word_of part (issue class ∷ t) = column_of part class ∷ word_of part t
word_of part (advance n ∷ t) = replicate n (advance_of part) ++ word_of part t
word_of part (ask a u ∷ t) = word_of part t

-- the state of a part after events, none as soon as an entry is none
abbrev pub part_walk : Part → ℕ → List Event → Option ℕ
part_walk part state t = walk part.rows (Some state) (word_of part t)

-- a state before others, none where one of them is none
abbrev pub onto_states : Option ℕ → Option (List ℕ) → Option (List ℕ)
onto_states None states = None
onto_states (Some state) None = None
onto_states (Some state) (Some states) = Some (state ∷ states)

-- the states after events, one for each part, from one state of each; none where one of them is none
abbrev pub parts_walk : List Part → List ℕ → List Event → Option (List ℕ)
parts_walk [] states t = Some []
parts_walk (part ∷ parts) [] t = None
parts_walk (part ∷ parts) (state ∷ states) t = onto_states (part_walk part state t) (parts_walk parts states t)

-- the start of each part
abbrev pub starts_of : Machine → List ℕ
starts_of m = replicate (length m.parts) 0

-- the states after events, one for each part, from the start of every part; none where a part has no next state
abbrev pub machine_walk : Machine → List Event → Option (List ℕ)
machine_walk m t = parts_walk m.parts (starts_of m) t

-- the machine walks these events
abbrev pub IsWalked : Machine → List Event → Type 0
IsWalked m t = IsSome (machine_walk m t)

-- whether that unit of a part is reserved in the states of a machine, one for each part
abbrev pub states_tell : Machine → List ℕ → (part query : ℕ) → Bool
states_tell m states part query = tells_reserved (part_at m part) (slice_index_or states part 0) query

-- What holds of a part, of a machine with so many classes: each class has a column before those of the asks, there are at most
-- as many columns of classes as classes, not too many are asked for, an ask leads to no other state, and the entries are not
-- too many.
pub record IsPart (classes : ℕ) (part : Part) : Type 0 where
  pub each : length part.map ≡ classes
  pub within : All (λ column. column < part.columns) part.map
  pub columns : part.columns ≤ classes
  pub asks : length part.asks ≤ unit_limit
  pub table : IsTable part.rows (advance_of part)
  pub stays : AsksStay part.rows part.columns (length part.asks)
  pub cells : length part.rows * (advance_of part + 1) ≤ cell_limit

-- the names of all that is asked for, part by part
abbrev pub names_of : List Part → List (List ℕ)
names_of parts = flat_map (λ part. part.asks) parts

-- What holds of a machine: it has a part, and not too many; its classes are not too many and have different names, and
-- all that is asked for has different names.
pub record IsMachine (m : Machine) : Type 0 where
  pub some : 1 ≤ length m.parts
  pub few : length m.parts ≤ automaton_limit
  pub class_count : length m.classes ≤ class_limit
  pub class_names : AllPairs (λ a b. a ≢ b) m.classes
  pub parts : All (IsPart (length m.classes)) m.parts
  pub ask_names : AllPairs (λ a b. a ≢ b) (names_of m.parts)
