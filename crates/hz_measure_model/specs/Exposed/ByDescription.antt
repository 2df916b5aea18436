-- What an exposed pipeline makes of a block by a description.
use Rattle.std.specs.Prelude.{List}
use Rattle.hz_description_model.specs.Reading.Descriptions.{Description}
use Rattle.hz_block_model.specs.Running.Blocks.{Instruction}
use Rattle.hz_block_model.specs.Running.States.{State}
use Rattle.hz_block_model.specs.Scheduling.Schedules.{Graph, Slot}
use Rattle.hz_block_model.specs.Scheduled.BlockGraphs.{timing_in, classes_of}
use Rattle.hz_measure_model.specs.Exposed.Exposed.{Timed, exposed}

-- `Exposed` of a block whose graph has the classes of its instructions
abbrev pub exposed_in : Description → List Instruction → Graph → List Slot → State → Timed
exposed_in d block g slots start = exposed block (timing_in d (classes_of g) block).number start slots
