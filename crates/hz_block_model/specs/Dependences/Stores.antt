-- Which instructions only store what another makes. GCC Internals, 'Specifying processor pipeline description', on
-- `store_data_bypass_p`; this profile, docs/RULES.md, 'Dependences'. Law: `stores_are_of_set_effects`.
use Rattle.std.specs.Prelude.{ℕ, Bool, false, ◌==◌, ◌&&◌, not, nat_lt, List, [], ◌∷◌, length, Option, Some, slice_get}
use Rattle.std.specs.List.{Contains, flat_map, list_any}
use Rattle.hz_block_model.specs.Running.Blocks.{Value, into, cell_at, Effect, assign, clobber, mention, Instruction}
use Rattle.hz_block_model.specs.Dependences.Accesses.{registers_in, is_among}

-- the register that a `set` writes; `clobber` and `use` don't count
abbrev pub registers_set_by : Effect → List ℕ
registers_set_by (assign (into number) value) = number ∷ []
registers_set_by (assign (cell_at address) value) = []
registers_set_by (clobber target) = []
registers_set_by (mention value) = []

-- the address of the cell that a `set` writes
abbrev pub addresses_set_by : Effect → List Value
addresses_set_by (assign (into number) value) = []
addresses_set_by (assign (cell_at address) value) = address ∷ []
addresses_set_by (clobber target) = []
addresses_set_by (mention value) = []

-- the registers that the `set` effects of an instruction write
abbrev pub registers_set : Instruction → List ℕ
registers_set i = flat_map registers_set_by i.effects

-- the addresses of the cells that they write
abbrev pub addresses_set : Instruction → List Value
addresses_set i = flat_map addresses_set_by i.effects

-- the second sets a cell and no register, and no register that the first sets occurs in the address of a cell that it sets
abbrev pub stores_data : (first second : Instruction) → Bool
stores_data first second =
    nat_lt 0 (length (addresses_set second))
    && (length (registers_set second) == 0
    && not (list_any (λ address. list_any (is_among (registers_in address)) (registers_set first)) (addresses_set second)))

-- the same of two instructions that may be there
abbrev pub stores_data_if : (first second : Option Instruction) → Bool
stores_data_if (Some first) (Some second) = stores_data first second
stores_data_if first second = false

-- the same of the instructions at two places of a block
abbrev pub stores_data_at : List Instruction → ℕ → ℕ → Bool
stores_data_at block i j = stores_data_if (slice_get block i) (slice_get block j)

-- Said effect by effect: the second instruction stores, and what the first makes isn't in the addresses.
pub record StoresData (first second : Instruction) : Type 0 where
  pub address : Value
  pub value : Value
  pub cell : Contains second.effects (assign (cell_at address) value)
  pub no_register : (r : ℕ) (stored : Value) → Contains second.effects (assign (into r) stored) → ⊥
  pub no_address : (r : ℕ) (made place stored : Value) → Contains first.effects (assign (into r) made) → Contains second.effects (assign (cell_at place) stored) → Contains (registers_in place) r → ⊥
