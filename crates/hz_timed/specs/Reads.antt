-- The reads that are held, as what the definitions speak of.
use Rattle.std.specs.Prelude.{ℕ, List, map}
use Rattle.std.specs.Option.{option_map}
use Rattle.hz_block_model.specs.Running.States as model
use Rattle.hz_rtl.specs.declared.block.Block.{Block}
use Rattle.hz_rtl.specs.Shape.{instructions}
use Rattle.hz_sched.specs.declared.parts.Slot.{Slot}
use Rattle.hz_sched.specs.Shape.{slots_of}
use Rattle.hz_measure_model.specs.Exposed.Exposed.{Read}
use Rattle.hz_measure_model.specs.Exposed.Texts.{line_of_read}
use Rattle.hz_timed.specs.declared.looking.Look.{Look}
use Rattle.hz_timed.specs.declared.parts.ReadNote.{ReadNote}
use Rattle.hz_timed.specs.declared.write.Write.{Write}
use Rattle.hz_timed.specs.Shape.{read_of}
use Rattle.hz_timed.specs.Writes.{number_by, last_ripe, written_at}

-- the read of a place by a slot, among writes
abbrev pub read_among : List Write → (ℕ → ℕ → ℕ) → Slot → ℕ → model.Place → Read
read_among writes number x slot p = record { slot = slot; what = p; from = option_map (λ w. w.place) (written_at writes (last_ripe number x writes p)) }

-- the same by a look
abbrev pub reads_by : Look → ℕ → model.Place → Read
reads_by look slot p = read_among look.written.now.writes.items (number_by look.waits) look.slot slot p

-- the line of a read, by the block and the slots
abbrev pub line_by : Block → List Slot → ReadNote → List ℕ
line_by block slots r = line_of_read (map (λ i. i.number) (instructions block)) (map (λ x. x.place) (slots_of slots)) (map (λ x. x.cycle) (slots_of slots)) (read_of r)
