use Rattle.std.proofs.Common.{ℕ, ◌<◌, ◌≢◌, None}
use Rattle.std.specs.List.{Contains}
use Rattle.hz_pipeline_model.specs.Tables.Tables.{entry}
use Rattle.hz_tables.proofs.laying.columns_of.Given as goal

abbrev pub invariant-loop-column : goal.invariant-loop-column
invariant-loop-column l = (column : ℕ) → column < l.column → entry l.plain.rows l.state column ≢ None → Contains l.columns.items column
