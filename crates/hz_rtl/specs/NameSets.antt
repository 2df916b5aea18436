-- What a set of names holds.
use Rattle.std.specs.Prelude.{ℕ, Bool, List}
use Rattle.std.specs.Ordering.{nat_cmp}
use Rattle.std.specs.Cmp.Lexicographic.{slice_cmp}
use Rattle.std.specs.BTreeSet.{BTreeSet, contains_by}

-- the name is in the set
abbrev pub is_held : BTreeSet (List ℕ) → List ℕ → Bool
is_held names name = contains_by (slice_cmp nat_cmp name) names
