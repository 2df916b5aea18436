-- Dependences lead upwards, inside the block.
use Rattle.std.proofs.Common.{◌≡◌, ℕ, zero, suc, ◌<◌, Bool, true, false, ◌&&◌, ◌||◌, List, [], ◌∷◌, length, Option, Some, None, refl, arith, rules}
use Rattle.std.specs.Prelude.{slice_get, nat_lt, IsTrue}
use Rattle.std.proofs.lemmas.Bool.{ltb-true}
use Rattle.hz_block_model.specs.Running.Blocks.{Instruction}
use Rattle.hz_block_model.specs.Dependences.Accesses.{Access}
use Rattle.hz_block_model.specs.Dependences.Graphs.{Edge, edge, IsGraph}
use Rattle.hz_block_model.specs.Dependences.Orders.{Keeps, KeepsEdges}
use Rattle.hz_block_model.specs.Dependences.Dependences.{is_true, is_anti, is_output, at_places, depends, Timing}

inside : (block : List Instruction) (j : ℕ) (y : Instruction) → slice_get block j ≡ Some y → j < length block
inside [] j y e = absurd (cc)
inside (x ∷ block) zero y e = omega arith
inside (x ∷ block) (suc j) y e = let h = inside block j y e in omega arith

true_test : (b : Bool) → IsTrue b → b ≡ true
true_test true h = refl
true_test false h = absurd (search rules)

second_there : (test : (between since : ℕ → Bool) (f g : Access) → Bool) (block : List Instruction) (i j : ℕ) (o p : Option Instruction) → at_places test block i j o p ≡ true → (y : Instruction) × (p ≡ Some y)
second_there test block i j (Some x) (Some y) e = (y, refl)
second_there test block i j (Some x) None e = absurd (cc)
second_there test block i j None p e = absurd (cc)

both : (a b : Bool) → (a && b) ≡ true → (a ≡ true) × (b ≡ true)
both true b e = (refl, e)
both false b e = absurd (cc)

pub upwards : (block : List Instruction) (i j : ℕ) → IsTrue (depends block i j) → (i < j) × (j < length block)
upwards block i j h =
    let (lt, there) = both (nat_lt i j) _ (true_test (depends block i j) h) in
    let (y, is) = second_there (λ b s f g. is_true b s f g || is_anti b s f g || is_output b s f g) block i j (slice_get block i) (slice_get block j) there in
    (ltb-true i j lt, inside block j y is)

is_true_test : (b : Bool) → b ≡ true → IsTrue b
is_true_test true h = search rules
is_true_test false h = absurd (cc)

-- an order that keeps the edges keeps the dependences
pub keeps_from_edges : (block : List Instruction) (t : Timing) (edges : List Edge) (order : List ℕ) → IsGraph block t edges → KeepsEdges edges order → Keeps block order
keeps_from_edges block t edges order graph kept before after i j is d =
    let (lt, within) = upwards block i j (is_true_test (depends block i j) d) in
    kept before after (edge block t i j) is (graph.each i j (omega arith) within d)
