-- Orders of a block that keep its dependences. Law: `orders_that_keep_dependences_commute`.
use Rattle.std.specs.Prelude.{◌≡◌, ℕ, ◌<◌, true, List, ◌∷◌, ◌++◌}
use Rattle.std.specs.List.{Contains}
use Rattle.hz_block_model.specs.Running.Blocks.{Instruction}
use Rattle.hz_block_model.specs.Dependences.Dependences.{depends}
use Rattle.hz_block_model.specs.Dependences.Graphs.{Edge}

-- The order holds each place below the count once, and no other.
pub record IsOrder (count : ℕ) (order : List ℕ) : Type 0 where
  pub each : (i : ℕ) → i < count → Contains order i
  pub only : (i : ℕ) → Contains order i → i < count
  pub once : (before after : List ℕ) (i : ℕ) → order ≡ before ++ i ∷ after → Contains before i → ⊥

-- Each place comes after those that it depends on.
abbrev pub Keeps : List Instruction → List ℕ → Type 0
Keeps block order = (before after : List ℕ) (i j : ℕ) → order ≡ before ++ j ∷ after → depends block i j ≡ true → Contains before i

-- Each place comes after those from which an edge leads to it.
abbrev pub KeepsEdges : List Edge → List ℕ → Type 0
KeepsEdges edges order = (before after : List ℕ) (e : Edge) → order ≡ before ++ e.to ∷ after → Contains edges e → Contains before e.from
