-- What the code holds, as what the definitions speak of.
use Rattle.std.specs.Prelude.{◌≡◌, ℕ, ◌<◌, List, ◌++◌, map, length, All, Option, Some, None}
use Rattle.hz_checked.specs.declared.checked.Checked.{Checked}
use Rattle.hz_rtl.specs.declared.block.Block.{Block}
use Rattle.hz_rtl.specs.Shape.{instructions}
use Rattle.hz_rtl.specs.States.{words}
use Rattle.hz_rtl.specs.Listings.{listing}
use Rattle.hz_depend.specs.declared.parts.Graph.{Graph}
use Rattle.hz_depend.specs.GraphShape.{timing_in}
use Rattle.hz_sched.specs.declared.parts.Schedule.{Schedule}
use Rattle.hz_sched.specs.Shape.{slots_of}
use Rattle.hz_block_model.specs.Running.States as states
use Rattle.hz_block_model.specs.Texts.StateTexts.{listing_text}
use Rattle.hz_measure_model.specs.Exposed.Exposed as model
use Rattle.hz_measure_model.specs.Exposed.Texts.{text_of_reads}
use Rattle.hz_timed.specs.declared.parts.Source.{Source}
use Rattle.hz_timed.specs.declared.parts.Source.TheVariants.{Reg, Cell}
use Rattle.hz_timed.specs.declared.parts.ReadNote.{ReadNote}
use Rattle.hz_timed.specs.declared.parts.Timed.{Timed}

abbrev pub place_of : Source → states.Place
place_of (Reg number) = states.reg number
place_of (Cell address) = states.cell address

abbrev pub read_of : ReadNote → model.Read
read_of r = record { slot = r.slot; what = place_of r.what; from = r.from }

-- what is left
abbrev pub timed_of : Timed → model.Timed
timed_of t = record { state = words t.state; reads = map read_of t.reads.items }

-- the cycles that a second instruction of a block waits for what a first one wrote, by the classes of a graph
abbrev pub number_in : Checked → Block → Graph → ℕ → ℕ → ℕ
number_in checked block graph = (timing_in checked (map (λ i. i.class) graph.insns.items) (instructions block)).number

-- A graph has a class of the description for each instruction of a block.
pub record HasClasses (checked : Checked) (block : Block) (graph : Graph) : Type 0 where
  pub many : length graph.insns.items ≡ length block.insns.items
  pub within : All (λ i. i.class < length checked.classes.items) graph.insns.items

-- the place of a writer is below a count, if there is one
abbrev pub IsWriter : ℕ → Option ℕ → Type 0
IsWriter count None = Unit {0}
IsWriter count (Some place) = place < count

-- Slots are of instructions of the block, and reads are of slots and see what such instructions wrote.
pub record IsInRange (block : Block) (schedule : Schedule) (t : Timed) : Type 0 where
  pub places : All (λ x. x.place < length block.insns.items) schedule.slots.items
  pub slots : All (λ r. r.slot < length schedule.slots.items) t.reads.items
  pub writers : All (λ r. IsWriter (length block.insns.items) r.from) t.reads.items

-- the text of what is left
abbrev pub timed_text : Block → Schedule → Timed → List ℕ
timed_text block schedule t = text_of_reads (instructions block) (slots_of schedule.slots.items) (map read_of t.reads.items) ++ listing_text (listing t.state)
