-- Blocks whose dependences the laws compute, by two classes: one of latency 4 and one of latency 2, without bypasses.
use Rattle.std.specs.Prelude.{ℕ, ◌==◌, List, [], ◌∷◌, length, if◌then◌else◌}
use Rattle.std.specs.List.{flat_map, range_with_len}
use Rattle.hz_block_model.specs.Running.Operators.{plus, mult}
use Rattle.hz_block_model.specs.Running.Blocks.{Value, register, constant, memory, binary, into, cell_at, Effect, assign, clobber, mention, Instruction}
use Rattle.hz_block_model.specs.Dependences.Dependences.{depends, Timing}
use Rattle.hz_block_model.specs.Dependences.Graphs.{Edge, edge}

-- the edges of a block, by the places that they lead to and then by those that they come from
abbrev pub edges_of : List Instruction → Timing → List Edge
edges_of block t = flat_map (λ j. flat_map (λ i. if depends block i j then edge block t i j ∷ [] else []) (range_with_len 0 j)) (range_with_len 0 (length block))

-- an edge by its places and its cost
abbrev pub from_to : ℕ → ℕ → ℕ → Edge
from_to i j c = record { from = i; to = j; cost = c }

-- an instruction of one effect
abbrev pub one : Effect → Instruction
one effect = record { number = 1; line = 1; effects = effect ∷ []; attributes = [] }

-- the first instruction takes 4 cycles, the others 2
abbrev pub slow_first : Timing
slow_first = record { latency = λ i. if i == 0 then 4 else 2; number = λ i j. if i == 0 then 4 else 2 }

-- r1 + 8
abbrev pub eight_on : Value
eight_on = binary plus (register 1) (constant 8)

-- a product, a sum that takes it, and a sum that doesn't
abbrev pub product_used : List Instruction
product_used = one (assign (into 3) (binary mult (register 1) (register 2))) ∷ one (assign (into 4) (binary plus (register 3) (constant 1))) ∷ one (assign (into 5) (binary plus (register 1) (constant 1))) ∷ []

-- a product and a sum into one register
abbrev pub written_twice : List Instruction
written_twice = one (assign (into 3) (binary mult (register 1) (register 2))) ∷ one (assign (into 3) (binary plus (register 1) (constant 1))) ∷ []

-- a register that is read and then written
abbrev pub read_then_written : List Instruction
read_then_written = one (assign (into 4) (binary plus (register 3) (constant 1))) ∷ one (assign (into 3) (binary plus (register 1) (constant 1))) ∷ []

-- a store at r1 + 8, r1 raised, and a load at r1
abbrev pub base_written : List Instruction
base_written = one (assign (cell_at eight_on) (register 2)) ∷ one (assign (into 1) eight_on) ∷ one (assign (into 4) (memory (register 1))) ∷ []

-- a store at r1 + 8 and a load at r1
abbrev pub one_base : List Instruction
one_base = one (assign (cell_at eight_on) (register 2)) ∷ one (assign (into 4) (memory (register 1))) ∷ []

-- a store at r1 and a load at r2
abbrev pub two_bases : List Instruction
two_bases = one (assign (cell_at (register 1)) (register 3)) ∷ one (assign (into 4) (memory (register 2))) ∷ []

-- a store at r1 that also raises r1, and a load at r1 + 8: the base is written by the first
abbrev pub base_written_by_first : List Instruction
base_written_by_first =
    record { number = 1; line = 1; effects = assign (cell_at (register 1)) (register 2) ∷ assign (into 1) eight_on ∷ []; attributes = [] }
    ∷ one (assign (into 4) (memory eight_on)) ∷ []

-- a load at r1 + 8 that also writes r1, after a store at r1: the base is written by the second
abbrev pub base_written_by_second : List Instruction
base_written_by_second =
    one (assign (cell_at (register 1)) (register 2))
    ∷ record { number = 2; line = 1; effects = assign (into 4) (memory eight_on) ∷ assign (into 1) (constant 0) ∷ []; attributes = [] } ∷ []

-- a store at r1 + 8 and a load at r1 + (8 + 2 ^ 64), which is one cell
abbrev pub same_constant : List Instruction
same_constant = one (assign (cell_at eight_on) (register 2)) ∷ one (assign (into 4) (memory (binary plus (register 1) (constant 18446744073709551624)))) ∷ []

-- two stores, at the product of r1 and r1, and at r1: one has no base
abbrev pub no_base : List Instruction
no_base = one (assign (cell_at (binary mult (register 1) (register 1))) (register 2)) ∷ one (assign (cell_at (register 1)) (register 2)) ∷ []

-- a clobber of a register that is used, written again, and used
abbrev pub clobbered : List Instruction
clobbered = one (clobber (into 1)) ∷ one (mention (register 1)) ∷ one (assign (into 1) (constant 5)) ∷ one (mention (register 1)) ∷ []
