-- What an instruction asks for and stores, as what the definitions speak of.
use Rattle.std.specs.Prelude.{◌≡◌, ℕ, List, [], ◌∷◌, ◌++◌}
use Rattle.std.specs.List.{flat_map}
use Rattle.hz_block_model.specs.Running.Blocks.{Value, register, constant, memory, unary, binary, choice}
use Rattle.hz_block_model.specs.Running.States as model
use Rattle.hz_block_model.specs.Running.States.{value_in}
use Rattle.hz_block_model.specs.Dependences.Accesses.{registers_in}
use Rattle.hz_timed.specs.declared.evaluating.Asked.{Asked}
use Rattle.hz_timed.specs.declared.evaluating.Kept.{Kept}
use Rattle.hz_timed.specs.Shape.{place_of}

-- the cells that a value asks for in a state, in the order in which it asks
abbrev pub cells_asked : model.State → Value → List ℕ
cells_asked s (register number) = []
cells_asked s (constant word) = []
cells_asked s (memory address) = cells_asked s address ++ value_in s address ∷ []
cells_asked s (unary operator operand) = cells_asked s operand
cells_asked s (binary operator left right) = cells_asked s left ++ cells_asked s right
cells_asked s (choice test first second) = cells_asked s test ++ (cells_asked s first ++ cells_asked s second)

-- what is stored
abbrev pub store_of : Kept → model.Store
store_of kept = record { place = place_of kept.what; word = kept.word }

-- the registers and the cells that values ask for are added
pub record Adds (s : model.State) (values : List Value) (old new : Asked) : Type 0 where
  pub registers : new.registers.items ≡ old.registers.items ++ flat_map registers_in values
  pub cells : new.cells.items ≡ old.cells.items ++ flat_map (cells_asked s) values
