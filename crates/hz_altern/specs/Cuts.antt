-- Pairs of one automaton, as the code holds them.
use Rattle.std.specs.Prelude.{ℕ, List, map}
use Rattle.std.specs.declared.alloc.Global.{Global}
use Rattle.std.specs.declared.vec.Vec.{Vec}
use Rattle.hz_base_model.specs.Pairs.{Pair}

-- a unit and a cycle as a pair
abbrev pub within_pair : ℕ × ℕ → Pair ℕ
within_pair p = record { unit = p.0; cycle = p.1 }

-- units and cycles as pairs
abbrev pub within_pairs : List (ℕ × ℕ) → List (Pair ℕ)
within_pairs pairs = map within_pair pairs

-- the pairs of each of several lists
abbrev pub cuts_of : List (Vec (ℕ × ℕ) Global) → List (List (Pair ℕ))
cuts_of lists = map (λ list. within_pairs list.items) lists
