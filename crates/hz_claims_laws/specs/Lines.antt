-- What the lines of each answer tell, of the values that the answer is of: docs/FORMATS.md, 'Answers'. Laws of `text_laws`.
use Rattle.std.specs.Prelude.{⊤, ℕ, ◌^◌, ◌<◌, List, [], codes, decimal, slice_index, slice_index_or, map, Option, Some, None, All}
use Rattle.hz_block_model.specs.Running.Blocks.{Instruction}
use Rattle.hz_block_model.specs.Running.States.{Place, reg, cell}
use Rattle.hz_block_model.specs.Scheduling.Schedules.{Graph, Slot, class_at}
use Rattle.hz_measure_model.specs.Bounds.Bounds.{UnitLoad}
use Rattle.hz_measure_model.specs.Bounds.Texts.{unit_name}
use Rattle.hz_measure_model.specs.Exposed.Exposed.{Read}
use Rattle.hz_measure_model.specs.Kernels.Kernels.{KernelSlot}
use Rattle.hz_measure_model.specs.TwoContexts.Joining.{ContextSlot}
use Rattle.hz_claims_laws.specs.Reading.{IsWord, LineMeaning, an_issue, an_issue_of, a_read, a_load, no_load}

-- numbers of 64 bits
abbrev pub AreSmall : List ℕ → Type 0
AreSmall numbers = All (λ m. m < 2 ^ 64) numbers

-- the cycles of slots have 64 bits
abbrev pub HaveSmallCycles : List Slot → Type 0
HaveSmallCycles slots = All (λ x. x.cycle < 2 ^ 64) slots

-- the numbers of the instructions of a block
abbrev pub numbers_of : List Instruction → List ℕ
numbers_of block = map (λ i. i.number) block

-- By the names of the classes, the numbers of the instructions and their graph: an issue of a schedule is its cycle, the number of the
-- instruction, and its class.
abbrev pub slot_tells : List (List ℕ) → List ℕ → Graph → Slot → LineMeaning
slot_tells names numbers g x = an_issue x.cycle (slice_index numbers x.place) (slice_index_or names (class_at g x.place) [])

-- an issue of two contexts is its cycle, its context, the number of the instruction in its block, and its class
abbrev pub own_tells : List (List ℕ) → List ℕ → Graph → ContextSlot → LineMeaning
own_tells names numbers g x = an_issue_of x.cycle x.context (slice_index numbers x.place) (slice_index_or names (class_at g x.place) [])

-- an instruction of a kernel is its cycle in the interval, its stage, its number, and its class
abbrev pub kernel_tells : List (List ℕ) → List ℕ → Graph → KernelSlot → LineMeaning
kernel_tells names numbers g x = an_issue_of x.offset x.stage (slice_index numbers x.place) (slice_index_or names (class_at g x.place) [])

-- a unit and its load: count, span and value
abbrev pub load_tells : List (List (List ℕ)) → Option UnitLoad → LineMeaning
load_tells names None = no_load
load_tells names (Some l) = a_load (unit_name names l.unit) (l.load).count (l.load).span (l.load).value

-- who wrote what is read
abbrev pub writer_word : List ℕ → Option ℕ → List ℕ
writer_word numbers None = codes "start"
writer_word numbers (Some place) = decimal (slice_index numbers place)

-- a read at a cycle by an instruction: a register or a cell
abbrev pub place_tells : (cycle number : ℕ) → List ℕ → Place → LineMeaning
place_tells cycle number writer (reg register) = a_read cycle number (codes "reg") register writer
place_tells cycle number writer (cell address) = a_read cycle number (codes "mem") address writer

-- a read by the cycle and the instruction of its slot
abbrev pub read_tells : (numbers places cycles : List ℕ) → Read → LineMeaning
read_tells numbers places cycles r = place_tells (slice_index cycles r.slot) (slice_index numbers (slice_index places r.slot)) (writer_word numbers r.from) r.what

-- a register or an address of 64 bits
abbrev pub IsSmallPlace : Place → Type 0
IsSmallPlace (reg register) = register < 2 ^ 64
IsSmallPlace (cell address) = address < 2 ^ 64

-- a load of 64 bits of a unit with a name
abbrev pub IsSmallLoad : List (List (List ℕ)) → Option UnitLoad → Type 0
IsSmallLoad names None = ⊤
IsSmallLoad names (Some l) = ((l.load).count < 2 ^ 64) × ((l.load).span < 2 ^ 64) × ((l.load).value < 2 ^ 64) × IsWord (unit_name names l.unit)
