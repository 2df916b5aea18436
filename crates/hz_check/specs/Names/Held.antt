-- What is held for names.
use Rattle.std.specs.Prelude.{ℕ, Bool, List, Option, is_some}
use Rattle.std.specs.Ordering.{nat_cmp}
use Rattle.std.specs.Cmp.Lexicographic.{slice_cmp}
use Rattle.std.specs.BTreeMap.{get_by}
use Rattle.hz_check.specs.declared.names.by_name.ByName.{ByName}

-- what is held for a name
abbrev pub held : {V : Type 0} → ByName V → List ℕ → Option V
held table name = get_by (λ k. slice_cmp nat_cmp name k.now) table.names

-- something is held for the name
abbrev pub is_held : {V : Type 0} → ByName V → List ℕ → Bool
is_held table name = is_some (held table name)
