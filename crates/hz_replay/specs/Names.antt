-- Names that the code holds.
use Rattle.std.specs.Prelude.{ℕ, List, map}
use Rattle.std.specs.declared.alloc.Global.{Global}
use Rattle.std.specs.declared.vec.Vec.{Vec}
use Rattle.indexmap.specs.IndexSet.{IndexSet}

-- the names in a list of owned names
abbrev pub names_in : List (Vec ℕ Global) → List (List ℕ)
names_in keys = map (λ k. k.items) keys

-- the names in sets, one after the other
abbrev pub all_names_in : {S : Type 0} → List (IndexSet (Vec ℕ Global) S) → List (List (List ℕ))
all_names_in sets = map (λ set. names_in set.keys) sets
