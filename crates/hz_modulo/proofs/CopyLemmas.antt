-- How large a value is.
use Rattle.std.proofs.Common.{ℕ, ◌+◌}
use Rattle.hz_block_model.specs.Running.Blocks.{Value, register, constant, memory, unary, binary, choice}

-- each part is copied by two calls, one of the other
abbrev pub size : Value → ℕ
size (register number) = 0
size (constant word) = 0
size (memory address) = size address + 2
size (unary operator operand) = size operand + 2
size (binary operator left right) = size left + size right + 2
size (choice test first second) = size test + size first + size second + 2
