-- Names that the code holds, as those of the definitions.
use Rattle.std.specs.Prelude.{ℕ, List, map}
use Rattle.std.specs.Borrow.{Bor}
use Rattle.hz_same_model.specs.Common.{Common}
use Rattle.hz_same_top.specs.declared.tracing.Names.{Names}

-- the names that are lent
abbrev pub names_in : List (Bor (List ℕ)) → List (List ℕ)
names_in names = map (λ name. name.now) names

-- the names that two machines have in common
abbrev pub common_in : Names → Common
common_in names = record { classes = names_in names.classes.items; asks = names_in names.asks.items }
