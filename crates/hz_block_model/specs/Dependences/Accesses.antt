-- What instructions read and write. GCC Internals, 'Side Effect Expressions'; this profile, docs/RULES.md, 'Dependences'.
use Rattle.std.specs.Prelude.{ℕ, Bool, ◌==◌, List, [], ◌∷◌, ◌++◌, Option, Some, None}
use Rattle.std.specs.List.{flat_map, list_any}
use Rattle.hz_block_model.specs.Running.Operators.{BinaryOperator, plus}
use Rattle.hz_block_model.specs.Running.Blocks.{Value, register, constant, memory, unary, binary, choice, Target, into, cell_at, Effect, assign, clobber, mention, Instruction}

-- the registers that a value reads, also those in addresses
abbrev pub registers_in : Value → List ℕ
registers_in (register number) = number ∷ []
registers_in (constant word) = []
registers_in (memory address) = registers_in address
registers_in (unary operator operand) = registers_in operand
registers_in (binary operator left right) = registers_in left ++ registers_in right
registers_in (choice test first second) = registers_in test ++ (registers_in first ++ registers_in second)

-- the addresses of the cells that a value reads
abbrev pub addresses_in : Value → List Value
addresses_in (register number) = []
addresses_in (constant word) = []
addresses_in (memory address) = address ∷ addresses_in address
addresses_in (unary operator operand) = addresses_in operand
addresses_in (binary operator left right) = addresses_in left ++ addresses_in right
addresses_in (choice test first second) = addresses_in test ++ (addresses_in first ++ addresses_in second)

-- the values that a place reads: its address
abbrev pub values_of_target : Target → List Value
values_of_target (into number) = []
values_of_target (cell_at address) = address ∷ []

-- the values that an effect reads
abbrev pub values_of_effect : Effect → List Value
values_of_effect (assign target value) = value ∷ values_of_target target
values_of_effect (clobber target) = values_of_target target
values_of_effect (mention value) = value ∷ []

-- the values that an instruction reads
abbrev pub values_of : Instruction → List Value
values_of i = flat_map values_of_effect i.effects

-- the place that an effect stores to, if it does
abbrev pub targets_of_effect : Effect → List Target
targets_of_effect (assign target value) = target ∷ []
targets_of_effect (clobber target) = target ∷ []
targets_of_effect (mention value) = []

-- the places that an instruction stores to
abbrev pub targets_of : Instruction → List Target
targets_of i = flat_map targets_of_effect i.effects

abbrev pub register_of_target : Target → List ℕ
register_of_target (into number) = number ∷ []
register_of_target (cell_at address) = []

-- What an instruction reads and writes: registers by their numbers, cells by their addresses.
pub record Access : Type 0 where
  pub registers_read : List ℕ
  pub registers_written : List ℕ
  pub addresses_read : List Value
  pub addresses_written : List Value

abbrev pub access_of : Instruction → Access
access_of i = record {
  registers_read = flat_map registers_in (values_of i);
  registers_written = flat_map register_of_target (targets_of i);
  addresses_read = flat_map addresses_in (values_of i);
  addresses_written = flat_map values_of_target (targets_of i);
}

-- the register is one of these
abbrev pub is_among : List ℕ → ℕ → Bool
is_among registers r = list_any (λ n. n == r) registers

-- A base register and a constant: what some addresses are.
pub record Based : Type 0 where
  pub base : ℕ
  pub offset : ℕ

-- the register that a value is
abbrev pub plain_register : Value → Option ℕ
plain_register (register number) = Some number
plain_register value = None

-- the constant that a value is
abbrev pub plain_constant : Value → Option ℕ
plain_constant (constant word) = Some word
plain_constant value = None

-- the sum of a register and a constant
abbrev pub sum_of : BinaryOperator → Option ℕ → Option ℕ → Option Based
sum_of plus (Some number) (Some word) = Some (record { base = number; offset = word })
sum_of operator left right = None

-- an address that is a base register plus a constant; a plain register is itself plus 0
abbrev pub based_of : Value → Option Based
based_of (register number) = Some (record { base = number; offset = 0 })
based_of (binary operator left right) = sum_of operator (plain_register left) (plain_constant right)
based_of address = None
