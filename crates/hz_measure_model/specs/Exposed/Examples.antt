-- Blocks whose reads on an exposed pipeline the laws compute.
use Rattle.std.specs.Prelude.{ℕ, ◌==◌, if◌then◌else◌, List, [], ◌∷◌}
use Rattle.hz_block_model.specs.Running.Operators.{plus}
use Rattle.hz_block_model.specs.Running.Blocks.{register, constant, memory, binary, choice, into, cell_at, Effect, assign, Instruction}
use Rattle.hz_block_model.specs.Running.States.{reg, cell, State}
use Rattle.hz_block_model.specs.Scheduling.Schedules.{Slot}

-- an instruction of one effect
abbrev pub one : ℕ → Effect → Instruction
one number effect = record { number = number; line = number; effects = effect ∷ []; attributes = [] }

-- r3 := r1 + r2, and r4 := r3 + 1
abbrev pub sum_used : List Instruction
sum_used = one 1 (assign (into 3) (binary plus (register 1) (register 2))) ∷ one 2 (assign (into 4) (binary plus (register 3) (constant 1))) ∷ []

-- a store at r1 of a choice by r2, of which all operands are read
abbrev pub choice_stored : List Instruction
choice_stored = one 1 (assign (cell_at (register 1)) (choice (register 2) (memory (register 1)) (memory (constant 9)))) ∷ []

-- r1 holds 5 and r2 holds 7
abbrev pub five_and_seven : State
five_and_seven (reg n) = if n == 1 then 5 else (if n == 2 then 7 else 0)
five_and_seven (cell a) = 0

-- the second waits four cycles for the first
abbrev pub four : ℕ → ℕ → ℕ
four i j = 4

abbrev pub slot : ℕ → ℕ → Slot
slot place cycle = record { place = place; cycle = cycle }
