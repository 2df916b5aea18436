-- What the code holds, as what the definitions speak of.
use Rattle.std.specs.Prelude.{◌≡◌, ℕ, List, length, map, Option, Some, None, Result, Ok, Err}
use Rattle.std.specs.List.{range_with_len}
use Rattle.hz_replay.specs.declared.event.Event.{Event}
use Rattle.hz_replay.specs.Traces.{lines_in}
use Rattle.hz_depend.specs.declared.parts.Graph as depend
use Rattle.hz_depend.specs.declared.parts.GraphInsn.{GraphInsn}
use Rattle.hz_depend.specs.GraphShape.{edge_of}
use Rattle.hz_block_model.specs.Scheduling.Machines.{stuck_word}
use Rattle.hz_block_model.specs.Scheduling.Schedules.{Node, Graph}
use Rattle.hz_block_model.specs.Scheduling.Schedules as model
use Rattle.hz_sched.specs.declared.parts.Slot.{Slot}
use Rattle.hz_sched.specs.declared.parts.Schedule.{Schedule}
use Rattle.hz_sched.specs.declared.fault.SchedFault.{SchedFault}
use Rattle.hz_sched.specs.declared.fault.SchedFault.TheVariants.{CannotStartAlone, NoMemory}

abbrev pub node_of : GraphInsn → Node
node_of i = record { class = i.class; height = i.height }

abbrev pub graph_of : depend.Graph → Graph
graph_of g = record { nodes = map node_of g.insns.items; edges = map edge_of g.edges.items }

abbrev pub slot_of : Slot → model.Slot
slot_of x = record { place = x.place; cycle = x.cycle }

abbrev pub slots_of : List Slot → List model.Slot
slots_of slots = map slot_of slots

-- the place that is reported, where an instruction can't be issued alone
abbrev pub alone_in : Result Schedule SchedFault → Option ℕ
alone_in (Ok schedule) = None
alone_in (Err (CannotStartAlone place)) = Some place
alone_in (Err NoMemory) = None

-- the word by which a fault is reported, and the place of its instruction; want of memory is none
abbrev pub reported_of : SchedFault → Option (List ℕ × ℕ)
reported_of (CannotStartAlone place) = Some (stuck_word, place)
reported_of NoMemory = None

-- the line of each event is its place, from 1
abbrev pub AreNumbered : List Event → Type 0
AreNumbered events = lines_in events ≡ range_with_len 1 (length events)
