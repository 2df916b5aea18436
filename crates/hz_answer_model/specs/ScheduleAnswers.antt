-- What `schedule` answers: this profile, docs/FORMATS.md, 'Answers'.
use Rattle.std.specs.Prelude.{◌≡◌, ℕ, List, [], ◌++◌, map, length, All, Ok, ◌⊎◌, slice_index, slice_index_or}
use Rattle.std.specs.List.{flat_map}
use Rattle.hz_description_model.specs.Reading.Descriptions.{Description}
use Rattle.hz_description_model.specs.Check.Places.{Known, class_names}
use Rattle.hz_block_model.specs.Running.Blocks.{Instruction}
use Rattle.hz_block_model.specs.Dependences.Classes.{ClassFault}
use Rattle.hz_block_model.specs.Scheduling.Schedules.{Graph, Slot, class_at, present}
use Rattle.hz_block_model.specs.Scheduled.BlockGraphs.{class_in, IsFirstClassFault}
use Rattle.hz_block_model.specs.Scheduled.BlockSchedules.{StartsAlone, IsFirstStuck, IsScheduleOf}
use Rattle.hz_answer_model.specs.BlockAnswers.{HasBlock}
use Rattle.hz_answer_model.specs.FaultTexts.{class_line, stuck_line}
use Rattle.hz_front_model.specs.Phases.{Says}
use Rattle.hz_answer_model.specs.Texts.{slot_line, scheduled_line}

-- the line of a slot: its cycle, and the instruction's number and class
abbrev pub line_of_slot : Description → List Instruction → Graph → Slot → List ℕ
line_of_slot d block g x = slot_line x.cycle (slice_index (map (λ i. i.number) block) x.place) (slice_index_or (class_names d) (class_at g x.place) [])

-- the text of a schedule: its slots in their order, then how many they are, and the cycle of the last
abbrev pub schedule_text : Description → List Instruction → Graph → List Slot → List ℕ
schedule_text d block g slots = flat_map (line_of_slot d block g) slots ++ scheduled_line (length slots) (present 0 slots)

-- the class of each instruction of a block, or the first that is wrong
abbrev pub HasClasses : List ℕ → Description → List Instruction → (ℕ → List ℕ → Type 0) → ℕ → List ℕ → Type 0
HasClasses name d block next status text =
    (All (λ i. (class : ℕ) × (class_in d i ≡ Ok class)) block × next status text)
    ⊎ ((i : Instruction) × (fault : ClassFault) × IsFirstClassFault d block i fault × Says 2 (class_line name (class_names d) i fault) status text)

-- the first instruction of a block that can't be issued from the start is reported
abbrev pub TellsStuck : List ℕ → Description → Known → List Instruction → ℕ → List ℕ → Type 0
TellsStuck name d known block status text = (i : Instruction) × IsFirstStuck d known block i × Says 2 (stuck_line name i) status text

-- each instruction of a block can be issued from the start, or the first that can't
abbrev pub Starts : List ℕ → Description → Known → List Instruction → (ℕ → List ℕ → Type 0) → ℕ → List ℕ → Type 0
Starts name d known block next status text = (All (StartsAlone d known) block × next status text) ⊎ TellsStuck name d known block status text

-- the schedule of a block is reported
abbrev pub TellsSchedule : Description → Known → List Instruction → ℕ → List ℕ → Type 0
TellsSchedule d known block status text = (g : Graph) × (slots : List Slot) × IsScheduleOf d known block g slots × Says 0 (schedule_text d block g slots) status text

-- the schedule of a block whose instructions have classes, where each of them can be issued from the start, or the first that can't
abbrev pub Schedules : List ℕ → Description → Known → List Instruction → ℕ → List ℕ → Type 0
Schedules name d known block = Starts name d known block (TellsSchedule d known block)

-- the block of this name is judged, and scheduled
abbrev pub SchedulesBlock : List ℕ → List ℕ → Description → Known → ℕ → List ℕ → Type 0
SchedulesBlock block blocked d known =
    HasBlock block blocked (λ insns. HasClasses block d insns (Schedules block d known insns))
