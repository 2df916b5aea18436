-- What `bound` answers: this profile, docs/FORMATS.md, 'Answers'.
use Rattle.std.specs.Prelude.{ℕ, List}
use Rattle.hz_description_model.specs.Reading.Descriptions.{Description}
use Rattle.hz_description_model.specs.Check.Places.{Known}
use Rattle.hz_block_model.specs.Running.Blocks.{Instruction}
use Rattle.hz_block_model.specs.Scheduling.Schedules.{Graph, Slot}
use Rattle.hz_block_model.specs.Scheduled.BlockSchedules.{IsScheduleOf}
use Rattle.hz_measure_model.specs.Bounds.Bounds.{Bound, IsBoundOf}
use Rattle.hz_measure_model.specs.Bounds.Texts.{text_of_bound}
use Rattle.hz_answer_model.specs.BlockAnswers.{HasBlock}
use Rattle.hz_front_model.specs.Phases.{Says}
use Rattle.hz_answer_model.specs.ScheduleAnswers.{HasClasses, Starts}

-- the bound of a block is reported, with what shows it and the last cycle of the block's schedule
abbrev pub TellsBound : Description → Known → List Instruction → ℕ → List ℕ → Type 0
TellsBound d known block status text =
    (g : Graph) × (slots : List Slot) × (b : Bound) × IsScheduleOf d known block g slots × IsBoundOf d known g b × Says 0 (text_of_bound d block b slots) status text

-- the bound of a block whose instructions have classes, where each of them can be issued from the start, or the first that can't
abbrev pub Bounds : List ℕ → Description → Known → List Instruction → ℕ → List ℕ → Type 0
Bounds name d known block = Starts name d known block (TellsBound d known block)

-- the block of this name is judged, and its bound is reported
abbrev pub BoundsBlock : List ℕ → List ℕ → Description → Known → ℕ → List ℕ → Type 0
BoundsBlock block blocked d known = HasBlock block blocked (λ insns. HasClasses block d insns (Bounds block d known insns))
