-- Which registers are written between two places.
use Rattle.std.proofs.Common.{◌≡◌, ℕ, zero, suc, ◌<◌, ◌≤◌, Bool, true, false, ◌||◌, List, [], ◌∷◌, take, Some, refl, ap, ◌∙◌, arith}
use Rattle.std.specs.Prelude.{slice_get}
use Rattle.std.specs.List.{list_any}
use Rattle.hz_block_model.specs.Running.Blocks.{Instruction}
use Rattle.hz_block_model.specs.Dependences.Accesses.{access_of, is_among}
use Rattle.hz_block_model.specs.Dependences.Dependences.{is_written}
use Rattle.hz_block_model.proofs.Dependences.StoreLaws.{or_right}

-- the instruction writes the register
abbrev pub writes : Instruction → ℕ → Bool
writes i r = is_among (access_of i).registers_written r

pub written_here : (block : List Instruction) (from to m r : ℕ) (x : Instruction) → from ≤ m → m < to → slice_get block m ≡ Some x → writes x r ≡ true → is_written block from to r ≡ true
written_here [] from to m r x low high at w = absurd (cc)
written_here (y ∷ block) from zero m r x low high at w = absurd (omega arith)
written_here (y ∷ block) zero (suc to) zero r x low high at w =
    let same : y ≡ x = cc in
    ap (λ (z : Instruction). writes z r || list_any (λ i. writes i r) (take to block)) same ∙ ap (λ (b : Bool). b || list_any (λ i. writes i r) (take to block)) w
written_here (y ∷ block) zero (suc to) (suc m) r x low high at w = or_right (writes y r) (is_written block zero to r) (written_here block zero to m r x (omega arith) (omega arith) at w)
written_here (y ∷ block) (suc from) (suc to) zero r x low high at w = absurd (omega arith)
written_here (y ∷ block) (suc from) (suc to) (suc m) r x low high at w = written_here block from to m r x (omega arith) (omega arith) at w

-- An instruction between two places that writes the register.
pub record Writer (block : List Instruction) (from to r : ℕ) : Type 0 where
  pub place : ℕ
  pub who : Instruction
  pub low : from ≤ place
  pub high : place < to
  pub at : slice_get block place ≡ Some who
  pub writes_it : writes who r ≡ true

later : (y : Instruction) (block : List Instruction) (from to r : ℕ) → Writer block from to r → Writer (y ∷ block) (suc from) (suc to) r
later y block from to r w = record { place = suc w.place; who = w.who; low = let h = w.low in omega arith; high = let h = w.high in omega arith; at = w.at; writes_it = w.writes_it }

later_zero : (y : Instruction) (block : List Instruction) (to r : ℕ) → Writer block zero to r → Writer (y ∷ block) zero (suc to) r
later_zero y block to r w = record { place = suc w.place; who = w.who; low = omega arith; high = let h = w.high in omega arith; at = w.at; writes_it = w.writes_it }

pub written_by : (block : List Instruction) (from to r : ℕ) → is_written block from to r ≡ true → Writer block from to r
written_by [] zero zero r e = absurd (cc)
written_by [] zero (suc to) r e = absurd (cc)
written_by [] (suc from) zero r e = absurd (cc)
written_by [] (suc from) (suc to) r e = absurd (cc)
written_by (y ∷ block) zero zero r e = absurd (cc)
written_by (y ∷ block) (suc from) zero r e = absurd (cc)
written_by (y ∷ block) zero (suc to) r e = go (writes y r) refl e (written_by block zero to r)
  where
    go : (b : Bool) → writes y r ≡ b → (b || is_written block zero to r) ≡ true → (is_written block zero to r ≡ true → Writer block zero to r) → Writer (y ∷ block) zero (suc to) r
    go true is h further = record { place = zero; who = y; low = omega arith; high = omega arith; at = refl; writes_it = is }
    go false is h further = later_zero y block to r (further h)
written_by (y ∷ block) (suc from) (suc to) r e = later y block from to r (written_by block from to r e)
