use Rattle.hz_pipeline_model.specs.Tables.Tables.{entry}
use Rattle.hz_tables.specs.Laying.{Lays}
use Rattle.hz_tables.proofs.laying.lay.Given as goal

abbrev pub invariant-loop-column : goal.invariant-loop-column
invariant-loop-column l = Lays (entry l.plain.rows l.state) l.column l.base l.state l.initial.owners l.initial.targets l.owners l.targets
