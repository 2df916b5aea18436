-- Pairs of instructions and bypasses whose cycles the laws compute, by three classes of latencies 2, 4 and 6.
use Rattle.std.specs.Prelude.{ℕ, true, false, List, [], ◌∷◌}
use Rattle.hz_description_model.specs.Check.CheckedParts.{BypassParts}
use Rattle.hz_block_model.specs.Running.Operators.{plus, mult}
use Rattle.hz_block_model.specs.Running.Blocks.{register, constant, memory, binary, into, cell_at, Effect, assign, clobber, Instruction}
use Rattle.hz_block_model.specs.Dependences.Classes.{timing_of}
use Rattle.hz_block_model.specs.Dependences.Examples.{one, edges_of}
use Rattle.hz_block_model.specs.Dependences.Graphs.{Edge}

-- an instruction of two effects
abbrev pub two : Effect → Effect → Instruction
two first second = record { number = 1; line = 1; effects = first ∷ second ∷ []; attributes = [] }

-- `(set (reg 3) (mult (reg 1) (reg 2)))`
abbrev pub product : Instruction
product = one (assign (into 3) (binary mult (register 1) (register 2)))

-- the same with a clobber of the register 1
abbrev pub product_clobbering : Instruction
product_clobbering = two (assign (into 3) (binary mult (register 1) (register 2))) (clobber (into 1))

-- the product in a cell
abbrev pub product_in_cell : Instruction
product_in_cell = one (assign (cell_at (register 1)) (binary mult (register 1) (register 2)))

-- the product is stored, is the address of the cell, is both
abbrev pub stored : Instruction
stored = one (assign (cell_at (register 1)) (register 3))

abbrev pub addressed : Instruction
addressed = one (assign (cell_at (binary plus (register 3) (constant 8))) (register 1))

abbrev pub stored_at_itself : Instruction
stored_at_itself = one (assign (cell_at (register 3)) (register 3))

-- it is the address of a load that is stored
abbrev pub load_stored : Instruction
load_stored = one (assign (cell_at (register 1)) (memory (register 3)))

-- it is stored, and a register clobbered, or the cell at it, or a register set
abbrev pub stored_with_clobber : Instruction
stored_with_clobber = two (assign (cell_at (register 1)) (register 3)) (clobber (into 5))

abbrev pub stored_with_cell_clobbered : Instruction
stored_with_cell_clobbered = two (assign (cell_at (register 1)) (register 3)) (clobber (cell_at (register 3)))

abbrev pub stored_with_sum : Instruction
stored_with_sum = two (assign (cell_at (register 1)) (register 3)) (assign (into 4) (binary plus (register 1) (constant 8)))

-- it is used otherwise
abbrev pub added : Instruction
added = one (assign (into 4) (binary plus (register 3) (constant 1)))

-- from the class 1 to the class 0, with the guard and without it
abbrev pub guarded : BypassParts
guarded = record { number = 1; outs = 1 ∷ []; ins = 0 ∷ []; guard = true }

abbrev pub later_guarded : BypassParts
later_guarded = record { number = 5; outs = 1 ∷ []; ins = 0 ∷ []; guard = true }

abbrev pub plain : BypassParts
plain = record { number = 3; outs = 1 ∷ []; ins = 0 ∷ []; guard = false }

-- from the classes 1 and 2 to the classes 0 and 2
abbrev pub wide : BypassParts
wide = record { number = 3; outs = 1 ∷ 2 ∷ []; ins = 0 ∷ 2 ∷ []; guard = false }

abbrev pub latencies : List ℕ
latencies = 2 ∷ 4 ∷ 6 ∷ []

-- the edges of a block whose instructions have these classes
abbrev pub edges_by : List BypassParts → List ℕ → List Instruction → List Edge
edges_by bypasses classes block = edges_of block (timing_of latencies bypasses classes block)
