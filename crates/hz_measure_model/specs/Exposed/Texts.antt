-- The text of what an exposed pipeline reads and leaves: this profile, docs/FORMATS.md, 'Answers'.
use Rattle.std.specs.Prelude.{◌≡◌, ℕ, List, [], ◌∷◌, ◌++◌, codes, decimal, slice_index, map, Option, Some, None}
use Rattle.std.specs.List.{concat, flat_map}
use Rattle.hz_block_model.specs.Running.Blocks.{Instruction}
use Rattle.hz_block_model.specs.Running.States.{Place, reg, cell}
use Rattle.hz_block_model.specs.Scheduling.Schedules.{Slot}
use Rattle.hz_block_model.specs.Texts.StateTexts.{IsText}
use Rattle.hz_measure_model.specs.Exposed.Exposed.{Read, Timed}

-- a register or a cell
abbrev pub place_text : Place → List ℕ
place_text (reg number) = concat (codes " reg " ∷ decimal number ∷ [])
place_text (cell address) = concat (codes " mem " ∷ decimal address ∷ [])

-- the number of the instruction at the place of a writer, or `start` for the state before all
abbrev pub writer_text : List ℕ → Option ℕ → List ℕ
writer_text numbers None = codes "start"
writer_text numbers (Some place) = decimal (slice_index numbers place)

-- a read: the cycle, the number of the instruction that reads, what it reads, and who wrote that
abbrev pub read_front : ℕ → ℕ → List ℕ
read_front cycle number = concat (codes "read " ∷ decimal cycle ∷ codes " " ∷ decimal number ∷ [])

abbrev pub from_text : List ℕ → List ℕ
from_text writer = concat (codes " from " ∷ writer ∷ codes "\n" ∷ [])

abbrev pub read_line : ℕ → ℕ → Place → List ℕ → List ℕ
read_line cycle number what writer = read_front cycle number ++ (place_text what ++ from_text writer)

-- the line of a read, by the numbers of the instructions, and the places and the cycles of the slots
abbrev pub line_of_read : (numbers places cycles : List ℕ) → Read → List ℕ
line_of_read numbers places cycles r = read_line (slice_index cycles r.slot) (slice_index numbers (slice_index places r.slot)) r.what (writer_text numbers r.from)

-- the lines of reads
abbrev pub reads_text : (numbers places cycles : List ℕ) → List Read → List ℕ
reads_text numbers places cycles reads = flat_map (line_of_read numbers places cycles) reads

-- the same of a block and its slots
abbrev pub text_of_reads : List Instruction → List Slot → List Read → List ℕ
text_of_reads block slots reads = reads_text (map (λ i. i.number) block) (map (λ x. x.place) slots) (map (λ x. x.cycle) slots) reads

-- The text of what is left of a block: a line for each read, and then the text of the state.
pub record IsTimedText (block : List Instruction) (slots : List Slot) (t : Timed) (text : List ℕ) : Type 0 where
  pub tail : List ℕ
  pub state_is : IsText t.state tail
  pub text_is : text ≡ text_of_reads block slots t.reads ++ tail
