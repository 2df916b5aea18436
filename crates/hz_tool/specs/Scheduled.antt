-- Blocks that are scheduled.
use Rattle.std.specs.Prelude.{◌≡◌, ◌*◌, ◌<◌, ◌≤◌, None, length, All}
use Rattle.hz_block_model.specs.Scheduling.Machines.{most_wait, cannot_start_alone}
use Rattle.hz_block_model.specs.Scheduling.Schedules.{Legal, Greedy}
use Rattle.hz_checked.specs.declared.checked.Checked.{Checked}
use Rattle.hz_depend.specs.GraphShape.{IsGraphOf, IsSchedulable}
use Rattle.hz_depend.specs.declared.parts.Graph.{Graph}
use Rattle.hz_pipeline_model.specs.Tables.Machines.{IsWalked}
use Rattle.hz_rtl.specs.declared.block.Block.{Block}
use Rattle.hz_sched.specs.Shape.{graph_of, slots_of}
use Rattle.hz_sched.specs.declared.parts.Schedule.{Schedule}
use Rattle.hz_tables.specs.Machines.{machine_of}
use Rattle.hz_tables.specs.declared.machine.Machine.{Machine}

-- The graph is that of a block by a checked description, and the schedule that of the graph over a machine.
pub record IsScheduledBy (checked : Checked) (machine : Machine) (block : Block) (graph : Graph) (schedule : Schedule) : Type 0 where
  pub made : IsGraphOf checked block graph
  pub schedulable : IsSchedulable (length machine.classes.items) graph
  -- each instruction can be issued from the start
  pub starts : cannot_start_alone (machine_of machine) (graph_of graph) ≡ None
  pub legal : Legal (IsWalked (machine_of machine)) (graph_of graph) (slots_of schedule.slots.items)
  pub greedy : Greedy (IsWalked (machine_of machine)) (graph_of graph) (slots_of schedule.slots.items)
  pub counted : length schedule.slots.items ≡ length graph.insns.items
  pub places : All (λ x. x.place < length graph.insns.items) schedule.slots.items
  pub soon : All (λ x. x.cycle ≤ most_wait * length graph.insns.items) schedule.slots.items
