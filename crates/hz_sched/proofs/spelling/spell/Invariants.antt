use Rattle.std.proofs.Common.{◌≡◌, ◌++◌, ◌*◌, ◌≤◌, drop, length}
use Rattle.hz_replay.specs.Traces.{events_in}
use Rattle.hz_block_model.specs.Scheduling.Schedules.{spelled, spell}
use Rattle.hz_sched.specs.Shape.{graph_of, slots_of, AreNumbered}
use Rattle.hz_sched.proofs.spelling.spell.Given as goal

-- the trace so far, with that of the slots that are left, is that of all
abbrev pub invariant-loop-slot : goal.invariant-loop-slot
invariant-loop-slot l = record {
  reported : events_in l.events.items ++ spelled (graph_of l.graph) l.present (slots_of (drop l.slot-index l.schedule.slots.items)) ≡ spell (graph_of l.graph) (slots_of l.schedule.slots.items);
  numbered : AreNumbered l.events.items;
  short : length l.events.items ≤ 2 * l.slot-index;
}
