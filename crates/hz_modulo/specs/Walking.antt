-- How turns are walked on a machine: its states, and one interval of a kernel slot by slot.
use Rattle.std.specs.Prelude.{ℕ, zero, suc, ◌+◌, ◌&&◌, nat_le, if◌then◌else◌, List, [], ◌∷◌, ◌++◌, map, Option, option_and_then}
use Rattle.hz_pipeline_model.specs.Accepting.Events.{issue}
use Rattle.hz_pipeline_model.specs.Tables.Machines.{Machine, parts_walk}
use Rattle.hz_block_model.specs.Scheduling.Schedules.{Graph, Node, class_at, advance_to}
use Rattle.hz_measure_model.specs.Kernels.Kernels as model
use Rattle.hz_measure_model.specs.Kernels.Kernels.{interval_trace}
use Rattle.hz_modulo.specs.declared.parts.KernelSlot.{KernelSlot}

abbrev pub kernel_slot_of : KernelSlot → model.KernelSlot
kernel_slot_of x = record { offset = x.offset; stage = x.stage; place = x.place }

-- an instruction of this class
abbrev pub node_of : ℕ → Node
node_of class = record { class = class; height = 0 }

-- a graph of these classes, without edges
abbrev pub graph_of : List ℕ → Graph
graph_of classes = record { nodes = map node_of classes; edges = [] }

-- the states after what is left of an interval, from a cycle on
abbrev pub walk_rest : Machine → Graph → (interval least most : ℕ) → List KernelSlot → ℕ → List ℕ → Option (List ℕ)
walk_rest m g interval least most [] cycle states = parts_walk m.parts states (advance_to cycle interval)
walk_rest m g interval least most (x ∷ kernel) cycle states =
    if nat_le least x.stage && nat_le x.stage most
    then option_and_then (walk_rest m g interval least most kernel x.offset) (parts_walk m.parts states (advance_to cycle x.offset ++ issue (class_at g x.place) ∷ []))
    else walk_rest m g interval least most kernel cycle states

-- the states so many intervals after the start of a turn that does not come
abbrev pub drained_from : Machine → Graph → (interval : ℕ) → List model.KernelSlot → (turn intervals : ℕ) → Option (List ℕ) → Option (List ℕ)
drained_from m g interval kernel turn zero from = from
drained_from m g interval kernel turn (suc intervals) from =
    option_and_then (λ states. parts_walk m.parts states (interval_trace g interval (intervals + 1) (turn + intervals) kernel)) (drained_from m g interval kernel turn intervals from)
