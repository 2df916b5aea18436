-- The text of a schedule, by the names of the classes and the numbers of the instructions.
use Rattle.std.specs.Prelude.{ℕ, ◌<◌, List, [], ◌++◌, length, All, slice_index, slice_index_or}
use Rattle.std.specs.List.{flat_map}
use Rattle.hz_answer_model.specs.Texts.{slot_line, scheduled_line}
use Rattle.hz_depend.specs.declared.parts.Graph as depend
use Rattle.hz_sched.specs.declared.parts.Schedule.{Schedule}
use Rattle.hz_block_model.specs.Scheduling.Schedules.{Graph, Slot, class_at, present}
use Rattle.hz_tables.specs.declared.machine.Machine.{Machine}

-- the line of a slot: its cycle, and the number and the class of the instruction
abbrev pub line_by : (classes : List (List ℕ)) → (numbers : List ℕ) → Graph → Slot → List ℕ
line_by classes numbers g x = slot_line x.cycle (slice_index numbers x.place) (slice_index_or classes (class_at g x.place) [])

-- the lines of the slots in their order, and the line that ends them
abbrev pub schedule_by : (classes : List (List ℕ)) → (numbers : List ℕ) → Graph → List Slot → List ℕ
schedule_by classes numbers g slots = flat_map (line_by classes numbers g) slots ++ scheduled_line (length slots) (present 0 slots)

-- The slots are of instructions of the graph, and these of classes of the machine.
pub record IsInRange (machine : Machine) (graph : depend.Graph) (schedule : Schedule) : Type 0 where
  pub places : All (λ x. x.place < length graph.insns.items) schedule.slots.items
  pub classes : All (λ i. i.class < length machine.classes.items) graph.insns.items
