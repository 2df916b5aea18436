-- The numbers of bypasses as the code holds them.
use Rattle.std.specs.Prelude.{◌≡◌, ℕ, Bool, not, if◌then◌else◌, List, filter, Option, None, unwrap_or}
use Rattle.hz_description_model.specs.Check.CheckedParts.{BypassParts}
use Rattle.hz_block_model.specs.Running.Blocks.{Instruction}
use Rattle.hz_block_model.specs.Dependences.Classes.{bypass_between}
use Rattle.hz_block_model.specs.Dependences.Stores.{stores_data}
use Rattle.hz_checked.specs.NumberRows.{rows_of, number_at}
use Rattle.hz_depend.specs.declared.finding.numbers.Numbers.{Numbers}
use Rattle.hz_depend.specs.Held.{Held}

-- the bypass has the guard, or has none
abbrev pub has_guard : Bool → BypassParts → Bool
has_guard guard b = if guard then b.guard else not b.guard

-- the cycles of a true dependence, by the numbers with the guard and without it
abbrev pub served : (guarded plain : Option ℕ) → (latency : ℕ) → Instruction → Instruction → ℕ
served guarded plain latency first second = unwrap_or (if stores_data first second then guarded else None) (unwrap_or plain latency)

-- the same by the numbers that are held
unfoldable pub numbers_in : Numbers → Held → Held → ℕ
numbers_in n f s = served (number_at (rows_of n.guarded.items) f.class s.class) (number_at (rows_of n.plain.items) f.class s.class) f.latency f.instruction s.instruction

-- the numbers are those of these bypasses
pub record HoldsNumbers (bypasses : List BypassParts) (n : Numbers) : Type 0 where
  pub guarded : (out into : ℕ) → number_at (rows_of n.guarded.items) out into ≡ bypass_between (filter (λ b. b.guard) bypasses) out into
  pub plain : (out into : ℕ) → number_at (rows_of n.plain.items) out into ≡ bypass_between (filter (λ b. not b.guard) bypasses) out into
