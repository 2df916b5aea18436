-- Machines as data, on which the comparison is computed. This profile, docs/RULES.md, 'Machines that are compared'.
use Rattle.std.specs.Prelude.{◌==◌, if◌then◌else◌, ℕ, ◌+◌, List, [], ◌∷◌, Option, Some, None, codes, map}
use Rattle.std.specs.List.{range_with_len}
use Rattle.hz_pipeline_model.specs.Tables.Tables.{Table}
use Rattle.hz_pipeline_model.specs.Tables.Machines.{Part, Machine}

-- a part of two classes without asks, of which the first has the first column
abbrev pub part : Table → Part
part rows = record { name = codes "-"; map = 0 ∷ 1 ∷ []; columns = 2; asks = []; rows = rows }

-- the unit of `x`, which takes it for one cycle
abbrev pub one_cycle : Table
one_cycle = (Some 1 ∷ Some 0 ∷ Some 0 ∷ []) ∷ (None ∷ Some 1 ∷ Some 0 ∷ []) ∷ []

-- the unit of `y`, which takes it for two
abbrev pub two_cycles : Table
two_cycles = (Some 0 ∷ Some 1 ∷ Some 0 ∷ []) ∷ (Some 1 ∷ None ∷ Some 2 ∷ []) ∷ (Some 2 ∷ None ∷ Some 0 ∷ []) ∷ []

-- both units in one automaton
abbrev pub both_units : Table
both_units =
    (Some 1 ∷ Some 2 ∷ Some 0 ∷ [])
    ∷ (None ∷ Some 3 ∷ Some 0 ∷ [])
    ∷ (Some 3 ∷ None ∷ Some 4 ∷ [])
    ∷ (None ∷ None ∷ Some 4 ∷ [])
    ∷ (Some 5 ∷ None ∷ Some 0 ∷ [])
    ∷ (None ∷ None ∷ Some 0 ∷ [])
    ∷ []

-- in two parts
abbrev pub in_two_parts : Machine
in_two_parts = record { classes = codes "x" ∷ codes "y" ∷ []; parts = part one_cycle ∷ part two_cycles ∷ [] }

-- in one part, with the classes in the other order
abbrev pub in_one_part : Machine
in_one_part = record { classes = codes "y" ∷ codes "x" ∷ []; parts = record { name = codes "-"; map = 1 ∷ 0 ∷ []; columns = 2; asks = []; rows = both_units } ∷ [] }

-- a part of the class `x` alone
abbrev pub of_x : Table → Part
of_x rows = record { name = codes "-"; map = 0 ∷ []; columns = 1; asks = []; rows = rows }

abbrev pub machine_of_x : List Part → Machine
machine_of_x parts = record { classes = codes "x" ∷ []; parts = parts }

-- one issue in each cycle
abbrev pub once : Table
once = (Some 1 ∷ Some 0 ∷ []) ∷ (None ∷ Some 0 ∷ []) ∷ []

-- any number of issues
abbrev pub always : Table
always = (Some 0 ∷ Some 0 ∷ []) ∷ []

-- an issue of `x`, then none for so many cycles
abbrev pub held_row : ℕ → ℕ → List (Option ℕ)
held_row cycles state = (if state == 0 then Some 1 else None) ∷ Some (if state == 0 then 0 else (if state == cycles then 0 else state + 1)) ∷ []

abbrev pub held_for : ℕ → Machine
held_for cycles = machine_of_x (of_x (map (held_row cycles) (range_with_len 0 (cycles + 1))) ∷ [])

-- `x` takes the units `a` and `b` for one cycle, and which of them it holds is asked; or it takes `a` alone
abbrev pub asked : Option ℕ → Machine
asked second = record {
  classes = codes "x" ∷ [];
  parts = record { name = codes "-"; map = 0 ∷ []; columns = 1; asks = codes "a" ∷ codes "b" ∷ []; rows = (Some 1 ∷ None ∷ None ∷ Some 0 ∷ []) ∷ (None ∷ Some 1 ∷ second ∷ Some 0 ∷ []) ∷ [] } ∷ [];
}
