-- The text of a state. docs/FORMATS.md, 'Blocks and states'.
use Rattle.std.specs.Prelude.{◌≡◌, ◌≢◌, ℕ, ◌<◌, ◌==◌, if◌then◌else◌, List, [], ◌∷◌, ◌++◌, length, codes, decimal, slice_index}
use Rattle.std.specs.List.{flat_map, concat, enumerate_from, Contains, AllPairs}
use Rattle.hz_block_model.specs.Running.States.{reg, cell, State}
use Rattle.hz_block_model.specs.Texts.Operands.{register_count}

-- A state as it is listed: the words of all registers from 0 on, and cells with their words.
pub record Listing : Type 0 where
  pub registers : List ℕ
  pub cells : List (ℕ × ℕ)

-- The listing of a state: each register's word, and exactly the cells that aren't 0, by ascending address. Law: `one_listing`.
pub record IsListing (state : State) (l : Listing) : Type 0 where
  pub count : length l.registers ≡ register_count
  pub words : (n : ℕ) → n < register_count → slice_index l.registers n ≡ state (reg n)
  pub ascending : AllPairs (λ a b. a.0 < b.0) l.cells
  pub held : (e : ℕ × ℕ) → Contains l.cells e → (e.1 ≡ state (cell e.0)) × (e.1 ≢ 0)
  pub complete : (address : ℕ) → state (cell address) ≢ 0 → Contains l.cells (address, state (cell address))

-- the line of a register, unless it holds 0
abbrev pub register_line : ℕ × ℕ → List ℕ
register_line e = if e.1 == 0 then [] else concat (codes "(reg " ∷ decimal e.0 ∷ codes " " ∷ decimal e.1 ∷ codes ")\n" ∷ [])

-- the line of a cell
abbrev pub cell_line : ℕ × ℕ → List ℕ
cell_line e = concat (codes "(mem " ∷ decimal e.0 ∷ codes " " ∷ decimal e.1 ∷ codes ")\n" ∷ [])

-- the text of a listing: a line for each register that isn't 0, then one for each cell
abbrev pub listing_text : Listing → List ℕ
listing_text l = flat_map register_line (enumerate_from 0 l.registers) ++ flat_map cell_line l.cells

-- The text of a state.
pub record IsText (state : State) (text : List ℕ) : Type 0 where
  pub listing : Listing
  pub is_listing : IsListing state listing
  pub text_is : text ≡ listing_text listing
