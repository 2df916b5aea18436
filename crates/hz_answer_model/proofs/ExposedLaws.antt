-- On an exposed pipeline the schedule of a block leaves what the block leaves in the order of the source.
use Rattle.std.proofs.Common.{◌≡◌, ℕ, List, length, subst}
use Rattle.std.specs.List.{range_with_len}
use Rattle.hz_description_model.specs.Check.Places.{Known}
use Rattle.hz_description_model.specs.Reading.Descriptions.{Description}
use Rattle.hz_block_model.specs.Running.Blocks.{Instruction}
use Rattle.hz_block_model.specs.Running.States.{State, run}
use Rattle.hz_block_model.specs.Dependences.Orders.{IsOrder}
use Rattle.hz_block_model.specs.Scheduling.Schedules.{Graph, Slot, places}
use Rattle.hz_block_model.specs.Scheduled.BlockGraphs.{timing_in, classes_of}
use Rattle.hz_block_model.specs.Scheduled.BlockSchedules.{IsScheduleOf}
use Rattle.hz_block_model.proofs.Scheduled.GraphLaws.{as_many}
use Rattle.hz_measure_model.proofs.Exposed.TimedLaws.{exposed_is_source}
use Rattle.hz_measure_model.specs.Exposed.ByDescription.{exposed_in}

pub leaves_source : (d : Description) (known : Known) (block : List Instruction) (g : Graph) (slots : List Slot) (start : State) → IsScheduleOf d known block g slots → (exposed_in d block g slots start).state ≡ run block (range_with_len 0 (length block)) start
leaves_source d known block g slots start is =
    exposed_is_source block (timing_in d (classes_of g) block) g slots start (is.graph).edges (subst (λ (n : ℕ). IsOrder n (places slots)) (as_many d block g is.graph) (is.legal).order) (is.legal).kept
