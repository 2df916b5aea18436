-- What the slots of a schedule make of a state on an exposed pipeline: nothing waits for what is read, and a read sees the newest
-- write that is ripe for the reader. GCC Internals, 'Specifying processor pipeline description'; this profile, docs/RULES.md,
-- 'Exposed pipelines'. Law: `legal_schedules_need_no_interlock`.
use Rattle.std.specs.Prelude.{ℕ, ◌+◌, Bool, true, ◌&&◌, nat_lt, nat_le, if◌then◌else◌, List, [], ◌∷◌, ◌++◌, map, Option, Some, None, slice_get}
use Rattle.std.specs.List.{list_any, find}
use Rattle.std.specs.Option.{option_map}
use Rattle.hz_block_model.specs.Running.Blocks.{Instruction}
use Rattle.hz_block_model.specs.Running.States.{Place, reg, cell, same_place, State, value_in, Store, stores_of, all_stored}
use Rattle.hz_block_model.specs.Dependences.Accesses.{access_of}
use Rattle.hz_block_model.specs.Scheduling.Schedules.{Slot}

-- What a slot left: the place of its instruction in the block, its cycle, and what it stored.
pub record Left : Type 0 where
  pub place : ℕ
  pub cycle : ℕ
  pub stores : List Store

-- one of the stores is at the place
abbrev pub is_stored_to : List Store → Place → Bool
is_stored_to stores p = list_any (λ s. same_place s.place p) stores

-- the newest of what slots left, the newest first, that passes a test and stored to a place
abbrev pub newest : (Left → Bool) → List Left → Place → Option Left
newest passes lefts p = find (λ l. passes l && is_stored_to l.stores p) lefts

-- the word that it left there, or that of a state, if there is none
abbrev pub word_left : State → Option Left → Place → ℕ
word_left s None p = s p
word_left s (Some l) p = all_stored s l.stores p

-- the state in which each place has what the last slot that wrote it left there, or what a state before all has
abbrev pub left_state : State → List Left → State
left_state start lefts = λ p. word_left start (newest (λ l. true) lefts p) p

-- the numbers in ascending order, each once
abbrev pub with_number : ℕ → List ℕ → List ℕ
with_number n [] = n ∷ []
with_number n (m ∷ ms) = if nat_lt n m then n ∷ m ∷ ms else (if nat_lt m n then m ∷ with_number n ms else m ∷ ms)

abbrev pub ascending : List ℕ → List ℕ
ascending [] = []
ascending (n ∷ ns) = with_number n (ascending ns)

-- what an instruction stores, if there is one
abbrev pub stores_in : Option Instruction → State → List Store
stores_in None t = []
stores_in (Some i) t = stores_of i t

-- the registers that an instruction reads, ascending, and then the cells, by what its addresses are in a state. The address of a
-- cell that is only written is no read; what that address reads is.
abbrev pub reads_in : Option Instruction → State → List Place
reads_in None t = []
reads_in (Some i) t = map reg (ascending (access_of i).registers_read) ++ map cell (ascending (map (value_in t) (access_of i).addresses_read))

-- A read: the slot by its place in the schedule, the register or cell, and the place in the block of the instruction that wrote
-- what is seen, or none, where that is of the state before all.
pub record Read : Type 0 where
  pub slot : ℕ
  pub what : Place
  pub from : Option ℕ

-- What is left of a block: a state, and what was read.
pub record Timed : Type 0 where
  pub state : State
  pub reads : List Read

-- A block, the cycles that a second instruction waits for what a first one wrote, by their places, and the state before all.
module _ (block : List Instruction) (number : ℕ → ℕ → ℕ) (start : State) where
  -- what a slot left is ripe for a later one: as many cycles have passed as the later instruction waits for the earlier one
  abbrev pub is_ripe : Slot → Left → Bool
  is_ripe x l = nat_le (l.cycle + number l.place x.place) x.cycle

  -- what the newest ripe slot left in each place, or what the state before all has
  abbrev pub seen : List Left → Slot → State
  seen lefts x = λ p. word_left start (newest (is_ripe x) lefts p) p

  -- what a slot leaves after others: all of it is computed of what it sees
  abbrev pub left_by : List Left → Slot → Left
  left_by lefts x = record { place = x.place; cycle = x.cycle; stores = stores_in (slice_get block x.place) (seen lefts x) }

  -- what slots leave after others, the newest first
  abbrev pub lefts_of : List Left → List Slot → List Left
  lefts_of lefts [] = lefts
  lefts_of lefts (x ∷ slots) = lefts_of (left_by lefts x ∷ lefts) slots

  -- a read of the slot at a place of the schedule
  abbrev pub read_by : ℕ → List Left → Slot → Place → Read
  read_by slot lefts x p = record { slot = slot; what = p; from = option_map (λ l. l.place) (newest (is_ripe x) lefts p) }

  -- what slots read, from a place of the schedule on, after others
  abbrev pub reads_of : ℕ → List Left → List Slot → List Read
  reads_of slot lefts [] = []
  reads_of slot lefts (x ∷ slots) =
      map (read_by slot lefts x) (reads_in (slice_get block x.place) (seen lefts x)) ++ reads_of (slot + 1) (left_by lefts x ∷ lefts) slots

  -- what slots make of the state, whether or not they are legal
  abbrev pub exposed : List Slot → Timed
  exposed slots = record { state = left_state start (lefts_of [] slots); reads = reads_of 0 [] slots }
