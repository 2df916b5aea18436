-- What `timed` answers: this profile, docs/FORMATS.md, 'Answers'.
use Rattle.std.specs.Prelude.{◌≡◌, ℕ, List}
use Rattle.hz_description_model.specs.Reading.Descriptions.{Description}
use Rattle.hz_description_model.specs.Check.Places.{Known}
use Rattle.hz_block_model.specs.Running.Blocks.{Instruction}
use Rattle.hz_block_model.specs.Running.States.{State}
use Rattle.hz_block_model.specs.Scheduling.Schedules.{Graph, Slot}
use Rattle.hz_block_model.specs.Scheduled.BlockSchedules.{IsScheduleOf}
use Rattle.hz_measure_model.specs.Exposed.ByDescription.{exposed_in}
use Rattle.hz_measure_model.specs.Exposed.Texts.{IsTimedText}
use Rattle.hz_answer_model.specs.BlockAnswers.{HasBlock, HasState}
use Rattle.hz_answer_model.specs.ScheduleAnswers.{HasClasses, Starts}

-- what the schedule of a block reads of a state on an exposed pipeline is reported, and the state that it leaves
abbrev pub TellsTimed : Description → Known → List Instruction → State → ℕ → List ℕ → Type 0
TellsTimed d known block state status text =
    (g : Graph) × (slots : List Slot) × IsScheduleOf d known block g slots × (status ≡ 0) × IsTimedText block slots (exposed_in d block g slots state) text

-- the same of a block whose instructions have classes, where each of them can be issued from the start, or the first that can't
abbrev pub Times : List ℕ → Description → Known → List Instruction → State → ℕ → List ℕ → Type 0
Times name d known block state = Starts name d known block (TellsTimed d known block state)

-- the state is judged, and then the classes of the block
abbrev pub TimesFrom : (block state stated : List ℕ) → Description → Known → List Instruction → ℕ → List ℕ → Type 0
TimesFrom block state stated d known insns =
    HasState state stated (λ start. HasClasses block d insns (Times block d known insns start))

-- the block and the state are judged, the block first, and what the block's schedule reads is reported
abbrev pub TimesBlock : (block blocked state stated : List ℕ) → Description → Known → ℕ → List ℕ → Type 0
TimesBlock block blocked state stated d known = HasBlock block blocked (TimesFrom block state stated d known)
