-- The owners and targets of a comb, as they are kept side by side.
use Rattle.std.specs.Prelude.{ℕ, List, map}
use Rattle.hz_tables.specs.Widths.{number_of}
use Rattle.hz_tables.specs.declared.pairs.Pair.{Pair}

-- for each place its owner, and for each its target
pub record Paired : Type 0 where
  pub owners : List ℕ
  pub targets : List ℕ

-- those of pairs
abbrev pub paired_of : {width : ℕ} → List (Pair width) → Paired
paired_of pairs = record { owners = map (λ pair. number_of pair.owner) pairs; targets = map (λ pair. number_of pair.target) pairs }
