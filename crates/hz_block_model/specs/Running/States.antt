-- What instructions do. GCC Internals, 'Side Effect Expressions': in a `parallel` all values and addresses are computed in the
-- old state, then the effects are made from left to right. That `clobber` stores the instruction's number is this profile's.
use Rattle.std.specs.Prelude.{ℕ, Bool, false, ◌==◌, if◌then◌else◌, List, [], ◌∷◌, Option, Some, None, slice_get}
use Rattle.std.specs.List.{flat_map}
use Rattle.hz_block_model.specs.Running.Operators.{unary_word, binary_word}
use Rattle.hz_block_model.specs.Running.Blocks.{Value, register, constant, memory, unary, binary, choice, Target, into, cell_at, Effect, assign, clobber, mention, Instruction}

-- where a word is held
pub data Place : Type 0 where
  reg : (number : ℕ) → Place
  cell : (address : ℕ) → Place

abbrev pub same_place : Place → Place → Bool
same_place (reg m) (reg n) = m == n
same_place (cell a) (cell b) = a == b
same_place _ _ = false

-- the word that each register and each cell holds
abbrev pub State : Type 0
State = Place → ℕ

-- the word that a value is in a state
abbrev pub value_in : State → Value → ℕ
value_in s (register number) = s (reg number)
value_in s (constant word) = word
value_in s (memory address) = s (cell (value_in s address))
value_in s (unary operator operand) = unary_word operator (value_in s operand)
value_in s (binary operator left right) = binary_word operator (value_in s left) (value_in s right)
value_in s (choice test first second) = if value_in s test == 0 then value_in s second else value_in s first

-- the place that a target is in a state
abbrev pub place_in : State → Target → Place
place_in s (into number) = reg number
place_in s (cell_at address) = cell (value_in s address)

-- a word that is stored at a place
pub record Store : Type 0 where
  pub place : Place
  pub word : ℕ

-- what an effect of the instruction of this number stores
abbrev pub stores_of_effect : State → ℕ → Effect → List Store
stores_of_effect s number (assign target value) = record { place = place_in s target; word = value_in s value } ∷ []
stores_of_effect s number (clobber target) = record { place = place_in s target; word = number } ∷ []
stores_of_effect s number (mention value) = []

-- what an instruction stores: all of it is computed in one state
abbrev pub stores_of : Instruction → State → List Store
stores_of i s = flat_map (stores_of_effect s i.number) i.effects

-- the state after one store
abbrev pub stored : State → Store → State
stored s store = λ place. if same_place store.place place then store.word else s place

-- the state after stores from left to right
abbrev pub all_stored : State → List Store → State
all_stored s [] = s
all_stored s (store ∷ stores) = all_stored (stored s store) stores

-- the state after an instruction
abbrev pub after : Instruction → State → State
after i s = all_stored s (stores_of i s)

-- the state after the instruction at a place of the block, if there is one
abbrev pub after_place : Option Instruction → State → State
after_place None s = s
after_place (Some i) s = after i s

-- the state after the instructions at the places of an order, one after the other
abbrev pub run : List Instruction → List ℕ → State → State
run block [] s = s
run block (place ∷ order) s = run block order (after_place (slice_get block place) s)
