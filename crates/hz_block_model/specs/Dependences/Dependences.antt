-- Which instructions of a block depend on which, and how many cycles lie between them. This profile, docs/RULES.md,
-- 'Dependences'.
use Rattle.std.specs.Prelude.{ℕ, ◌+◌, ◌-◌, ◌%◌, ◌==◌, Bool, false, ◌&&◌, ◌||◌, not, nat_lt, if◌then◌else◌, List, take, drop, max, Option, Some, slice_get}
use Rattle.std.specs.List.{list_any}
use Rattle.hz_block_model.specs.Running.Operators.{word_count}
use Rattle.hz_block_model.specs.Running.Blocks.{Value, Instruction}
use Rattle.hz_block_model.specs.Dependences.Accesses.{Access, access_of, is_among, Based, based_of}

-- two addresses that are one base register plus different constants, where the register isn't written in between
abbrev pub apart_by : (since : ℕ → Bool) → Option Based → Option Based → Bool
apart_by since (Some a) (Some b) = a.base == b.base && not (a.offset % word_count == b.offset % word_count) && not (since a.base)
apart_by since _ _ = false

abbrev pub are_apart : (since : ℕ → Bool) → Value → Value → Bool
are_apart since v w = apart_by since (based_of v) (based_of w)

-- some two of these addresses aren't apart
abbrev pub may_meet : (since : ℕ → Bool) → List Value → List Value → Bool
may_meet since vs ws = list_any (λ v. list_any (λ w. not (are_apart since v w)) ws) vs

-- A first and a second instruction: `between` tells which registers are written strictly between them, and `since` which are
-- written by the first or between them.
module _ (between since : ℕ → Bool) (first second : Access) where
  -- the second reads what the first wrote
  abbrev pub is_true : Bool
  is_true = list_any (λ r. is_among first.registers_written r && not (between r)) second.registers_read
      || may_meet since first.addresses_written second.addresses_read

  -- the second writes what the first reads
  abbrev pub is_anti : Bool
  is_anti = list_any (is_among second.registers_written) first.registers_read || may_meet since first.addresses_read second.addresses_written

  -- both write
  abbrev pub is_output : Bool
  is_output = list_any (is_among second.registers_written) first.registers_written || may_meet since first.addresses_written second.addresses_written

-- a register is written by an instruction from one place of a block up to, and without, another
abbrev pub is_written : List Instruction → ℕ → ℕ → ℕ → Bool
is_written block from to r = list_any (λ i. is_among (access_of i).registers_written r) (drop from (take to block))

-- a test of two instructions of a block, with the registers that are written between them
abbrev pub at_places : ((between since : ℕ → Bool) (first second : Access) → Bool) → List Instruction → (i j : ℕ) → Option Instruction → Option Instruction → Bool
at_places test block i j (Some first) (Some second) = test (is_written block (i + 1) j) (is_written block i j) (access_of first) (access_of second)
at_places test block i j _ _ = false

-- the instruction at j depends on the one at i, which comes before it
abbrev pub depends : List Instruction → ℕ → ℕ → Bool
depends block i j = nat_lt i j && at_places (λ b s f g. is_true b s f g || is_anti b s f g || is_output b s f g) block i j (slice_get block i) (slice_get block j)

-- What latencies and bypasses say of the instructions at places: the latency of each, and the cycles of a true dependence between
-- two.
pub record Timing : Type 0 where
  pub latency : ℕ → ℕ
  pub number : ℕ → ℕ → ℕ

-- the greatest of the costs of the dependences between two places: of a true one its number, of an anti-dependence 0, of
-- an output dependence the difference of the latencies, at least 0
abbrev pub cost : List Instruction → Timing → ℕ → ℕ → ℕ
cost block t i j = max
    (if at_places is_true block i j (slice_get block i) (slice_get block j) then t.number i j else 0)
    (if at_places is_output block i j (slice_get block i) (slice_get block j) then t.latency i - t.latency j else 0)
