-- The comb that is kept.
use Rattle.std.specs.Prelude.{ℕ}
use Rattle.hz_pipeline_model.specs.Combs.Combs.{Comb}
use Rattle.hz_tables.specs.declared.laying.Laying.{Laying}

-- a comb that is being made, for so many columns
abbrev pub comb_of : ℕ → Laying → Comb
comb_of columns laying = record { columns = columns; bases = laying.bases.items; owners = laying.owners.items; targets = laying.targets.items }
