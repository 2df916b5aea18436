-- Small schedules whose turns are computed.
use Rattle.std.specs.Prelude.{ℕ, List, [], ◌∷◌, Some, None, codes}
use Rattle.hz_pipeline_model.specs.Tables.Machines.{Machine}
use Rattle.hz_block_model.specs.Scheduling.Schedules.{Graph, Slot}
use Rattle.hz_measure_model.specs.Kernels.Kernels.{KernelSlot}

-- a slot by its place and its cycle
abbrev pub at : ℕ → ℕ → Slot
at place cycle = record { place = place; cycle = cycle }

-- a slot of a kernel by its offset, its stage and its place
abbrev pub part : ℕ → ℕ → ℕ → KernelSlot
part offset stage place = record { offset = offset; stage = stage; place = place }

-- two instructions, the second four cycles after the first
abbrev pub two_slots : List Slot
two_slots = at 0 0 ∷ at 1 4 ∷ []

-- a body of one instruction, and its schedule
abbrev pub one_node : Graph
one_node = record { nodes = record { class = 0; height = 0 } ∷ []; edges = [] }

abbrev pub one_slot : List Slot
one_slot = at 0 0 ∷ []

-- the machine of one class that takes its one unit for two cycles: nothing is taken, both cycles are, or the present one is
abbrev pub one_unit : Machine
one_unit = record {
  classes = codes "one" ∷ [];
  parts = record {
    name = codes "-";
    map = 0 ∷ [];
    columns = 1;
    asks = [];
    rows = (Some 1 ∷ Some 0 ∷ []) ∷ (None ∷ Some 2 ∷ []) ∷ (None ∷ Some 0 ∷ []) ∷ [];
  } ∷ [];
}
