-- Parts of a machine, each after some of the events of a trace.
use Rattle.std.specs.Prelude.{◌≡◌, ℕ, ◌<◌, ◌≤◌, List, Some, length, slice_index_or, take}
use Rattle.hz_pipeline_model.specs.Tables.Machines.{Machine, Part, part_at, part_walk}
use Rattle.hz_replay.specs.Traces.{events_in}
use Rattle.hz_replay.specs.declared.event.Event.{Event}
use Rattle.hz_report.specs.declared.parts_after.PartAfter.{PartAfter}

-- the start of a part, after no event
abbrev pub start : PartAfter
start = record { state = 0; events = 0 }

-- the state is that of the part after the first events, of which there are at most so many
pub record IsAfter (part : Part) (trace : List Event) (most : ℕ) (b : PartAfter) : Type 0 where
  pub within : b.events ≤ most
  pub stands : part_walk part 0 (events_in (take b.events trace)) ≡ Some b.state

-- each part of a machine has its state
abbrev pub AreAfter : Machine → List Event → ℕ → List PartAfter → Type 0
AreAfter m trace most parts = (part : ℕ) → part < length m.parts → IsAfter (part_at m part) trace most (slice_index_or parts part start)
