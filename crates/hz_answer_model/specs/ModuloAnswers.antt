-- What `modulo` answers: this profile, docs/FORMATS.md, 'Answers'.
use Rattle.std.specs.Prelude.{◌≡◌, ℕ, List, length}
use Rattle.hz_description_model.specs.Reading.Descriptions.{Description}
use Rattle.hz_description_model.specs.Check.Places.{Known}
use Rattle.hz_block_model.specs.Running.Blocks.{Instruction}
use Rattle.hz_measure_model.specs.Kernels.KernelTexts.{IsKernelOf}
use Rattle.hz_measure_model.specs.Kernels.Repeats.{body_limit}
use Rattle.hz_answer_model.specs.BlockAnswers.{HasBlock, HasAtMost}
use Rattle.hz_answer_model.specs.ScheduleAnswers.{HasClasses, Starts}

-- the kernel of a body is reported
abbrev pub TellsKernel : Description → Known → List Instruction → ℕ → List ℕ → Type 0
TellsKernel d known body status text = (status ≡ 0) × IsKernelOf d known body text

-- the same of a body whose instructions have classes, where each of them can be issued from the start, or the first that can't
abbrev pub Overlaps : List ℕ → Description → Known → List Instruction → ℕ → List ℕ → Type 0
Overlaps name d known body = Starts name d known body (TellsKernel d known body)

-- a body that is not too long is judged by its classes
abbrev pub OverlapsBody : List ℕ → Description → Known → List Instruction → ℕ → List ℕ → Type 0
OverlapsBody name d known body = HasAtMost body_limit (length body) name (HasClasses name d body (Overlaps name d known body))

-- the body of this name is judged, and its kernel is reported
abbrev pub OverlapsBlock : List ℕ → List ℕ → Description → Known → ℕ → List ℕ → Type 0
OverlapsBlock block blocked d known = HasBlock block blocked (OverlapsBody block d known)
