-- Writes that are held, as what the definitions speak of.
use Rattle.std.specs.Prelude.{◌≡◌, ℕ, zero, suc, ◌+◌, ◌<◌, Bool, false, ◌&&◌, nat_le, if◌then◌else◌, List, map, length, Option, Some, None, slice_get, slice_index_or, All, ⊤}
use Rattle.std.specs.Option.{option_map_or}
use Rattle.std.specs.Ordering.{nat_cmp}
use Rattle.std.specs.BTreeMap.{get, IsOrdered}
use Rattle.hz_block_model.specs.Running.States as model
use Rattle.hz_block_model.specs.Running.States.{same_place}
use Rattle.hz_checked.specs.Shape.{bypass_of}
use Rattle.hz_depend.specs.Numbers.{HoldsNumbers}
use Rattle.hz_timed.specs.Notes.{Note}
use Rattle.hz_rtl.specs.declared.state.State.{State}
use Rattle.hz_timed.specs.declared.looking.Look.{Look}
use Rattle.hz_rtl.specs.States.{words}
use Rattle.hz_timed.specs.declared.waits.Waits.{Waits}
use Rattle.hz_timed.specs.Shape.{place_of, number_in, HasClasses}
use Rattle.hz_sched.specs.declared.parts.Slot.{Slot}
use Rattle.hz_timed.specs.declared.write.Write.{Write}
use Rattle.hz_timed.specs.declared.written.Written.{Written}

-- the cycles that a second instruction waits for what a first one wrote
abbrev pub number_by : Waits → ℕ → ℕ → ℕ
number_by w = number_in w.checked.now w.block.now w.graph.now

-- how many instructions the block has
abbrev pub place_count : Waits → ℕ
place_count w = length w.block.now.insns.items

-- each instruction has a class, and the numbers are those of the description's bypasses
pub record CanWait (w : Waits) : Type 0 where
  pub classes : HasClasses w.checked.now w.block.now w.graph.now
  pub numbers : HoldsNumbers (map bypass_of w.checked.now.bypasses.items) w.numbers.now

-- the last number below another that passes
abbrev pub last_below : (ℕ → Bool) → ℕ → Option ℕ
last_below test zero = None
last_below test (suc k) = if test k then Some k else last_below test k

-- the write of a number passes
abbrev pub passes : (Write → Bool) → List Write → ℕ → Bool
passes test writes k = option_map_or test (slice_get writes k) false

abbrev pub is_at : model.Place → Write → Bool
is_at p w = same_place (place_of w.what) p

abbrev pub is_ripe_by : (ℕ → ℕ → ℕ) → Slot → Write → Bool
is_ripe_by number slot w = nat_le (w.cycle + number w.place slot.place) slot.cycle

-- the number of the last write of a place
abbrev pub latest : List Write → model.Place → Option ℕ
latest writes p = last_below (passes (is_at p) writes) (length writes)

-- the number of the last one that is ripe for a slot
abbrev pub last_ripe : (ℕ → ℕ → ℕ) → Slot → List Write → model.Place → Option ℕ
last_ripe number slot writes p = last_below (passes (λ w. is_ripe_by number slot w && is_at p w) writes) (length writes)

-- a write as what was written
abbrev pub note_of : Write → Note
note_of w = record { place = w.place; cycle = w.cycle; at = place_of w.what; word = w.word }

abbrev pub notes_in : Written → List Note
notes_in written = map note_of written.writes.items

-- the number that is held for a place
abbrev pub held : Written → model.Place → Option ℕ
held written (model.reg r) = slice_index_or written.registers.items r None
held written (model.cell a) = get nat_cmp written.cells a

-- the place is a cell, or a register that there is
abbrev pub IsThere : model.Place → Type 0
IsThere (model.reg r) = r < 256
IsThere (model.cell a) = ⊤

-- Each write tells the one before it of the same place, and the last of each register and cell is held.
pub record IsIndexed (written : Written) : Type 0 where
  pub linked : (k : ℕ) (w : Write) → slice_get written.writes.items k ≡ Some w → w.before ≡ last_below (passes (is_at (place_of w.what)) written.writes.items) k
  pub size : length written.registers.items ≡ 256
  pub last : (p : model.Place) → IsThere p → held written p ≡ latest written.writes.items p
  pub ordered : IsOrdered nat_cmp written.cells

-- the write of the number, if there is one
abbrev pub written_at : List Write → Option ℕ → Option Write
written_at writes None = None
written_at writes (Some k) = slice_get writes k

-- the word of a write
abbrev pub word_at : List Write → ℕ → ℕ
word_at writes k = option_map_or (λ w. w.word) (slice_get writes k) 0

-- what a slot sees
abbrev pub seen_by : State → List Write → (ℕ → ℕ → ℕ) → Slot → model.State
seen_by start writes number slot = λ p. option_map_or (word_at writes) (last_ripe number slot writes p) (words start p)

-- the state that a look sees
abbrev pub seen_in : Look → model.State
seen_in look = seen_by look.start.now look.written.now.writes.items (number_by look.waits) look.slot

-- what a look asks to be able to see
pub record HasSight (look : Look) : Type 0 where
  pub classes : CanWait look.waits
  pub indexed : IsIndexed look.written.now
  pub places : All (λ w. w.place < place_count look.waits) look.written.now.writes.items
  pub slot : look.slot.place < place_count look.waits

unfoldable pub CanSee : Look → Type 0
CanSee look = HasSight look
