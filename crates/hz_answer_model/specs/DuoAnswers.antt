-- What `duo` answers: this profile, docs/FORMATS.md, 'Answers'.
use Rattle.std.specs.Prelude.{ℕ, ◌+◌, List, length}
use Rattle.hz_description_model.specs.Reading.Descriptions.{Description}
use Rattle.hz_description_model.specs.Check.Places.{Known}
use Rattle.hz_block_model.specs.Running.Blocks.{Instruction}
use Rattle.hz_block_model.specs.Running.Limits.{instruction_limit}
use Rattle.hz_block_model.specs.Scheduling.Schedules.{Graph, Slot}
use Rattle.hz_block_model.specs.Scheduled.BlockSchedules.{IsScheduleOf}
use Rattle.hz_measure_model.specs.TwoContexts.Texts.{text_of_two}
use Rattle.hz_measure_model.specs.TwoContexts.TwoContexts.{IsScheduleOfTwo}
use Rattle.hz_answer_model.specs.BlockAnswers.{HasBlock, HasAtMost}
use Rattle.hz_front_model.specs.Phases.{Says}
use Rattle.hz_answer_model.specs.ScheduleAnswers.{HasClasses, Starts}

-- the schedule of both blocks is reported, with the last cycle of each block's own schedule
abbrev pub TellsTwo : Description → Known → (first second : List Instruction) → ℕ → List ℕ → Type 0
TellsTwo d known first second status text =
    (g : Graph) × (h : Graph) × (slots : List Slot) × (alone : List Slot) × (other : List Slot) × IsScheduleOfTwo d known first second g h slots
    × IsScheduleOf d known first g alone × IsScheduleOf d known second h other × Says 0 (text_of_two d first second g h slots alone other) status text

-- the schedule of both blocks, where each instruction can be issued from the start; or the first that can't, of the first block
-- before the second
abbrev pub StartsTwo : (first_name second_name : List ℕ) → Description → Known → (first second : List Instruction) → ℕ → List ℕ → Type 0
StartsTwo first_name second_name d known first second = Starts first_name d known first (Starts second_name d known second (TellsTwo d known first second))

-- the same where each instruction has a class; or the first whose class is wrong, of the first block before the second
abbrev pub SchedulesTwo : (first_name second_name : List ℕ) → Description → Known → (first second : List Instruction) → ℕ → List ℕ → Type 0
SchedulesTwo first_name second_name d known first second =
    HasClasses first_name d first (HasClasses second_name d second (StartsTwo first_name second_name d known first second))

-- Both blocks are judged, the first before the second, and scheduled together. They have together no more instructions than one may
-- have; else the limit is reported of the second.
abbrev pub SchedulesBlocks : (first_name first_text second_name second_text : List ℕ) → Description → Known → ℕ → List ℕ → Type 0
SchedulesBlocks first_name first_text second_name second_text d known =
    HasBlock first_name first_text (λ first. HasBlock second_name second_text (λ second. HasAtMost instruction_limit (length first + length second) second_name (SchedulesTwo first_name second_name d known first second)))
