-- Blocks of instructions. GCC Internals, 'Side Effect Expressions' and 'Registers and Memory'; docs/RULES.md, 'Blocks'.
use Rattle.std.specs.Prelude.{ℕ, List}
use Rattle.hz_block_model.specs.Running.Operators.{UnaryOperator, BinaryOperator}

-- What is computed in a state, without effect.
pub data Value : Type 0 where
  register : (number : ℕ) → Value
  constant : (word : ℕ) → Value
  -- the cell at an address
  memory : (address : Value) → Value
  unary : (operator : UnaryOperator) → (operand : Value) → Value
  binary : (operator : BinaryOperator) → (left : Value) → (right : Value) → Value
  -- the second if the first isn't 0, else the third
  choice : (test : Value) → (first : Value) → (second : Value) → Value

-- Where a word is stored: in a register, or in the cell at an address that is computed.
pub data Target : Type 0 where
  into : (number : ℕ) → Target
  cell_at : (address : Value) → Target

-- A side effect: `set`, `clobber`, and `use`, which only reads.
pub data Effect : Type 0 where
  assign : (target : Target) → (value : Value) → Effect
  clobber : (target : Target) → Effect
  mention : (value : Value) → Effect

-- An instruction: its number, the line of its form, its effects from left to right, and the attributes that it gives.
pub record Instruction : Type 0 where
  pub number : ℕ
  pub line : ℕ
  pub effects : List Effect
  pub attributes : List (List ℕ × List ℕ)
