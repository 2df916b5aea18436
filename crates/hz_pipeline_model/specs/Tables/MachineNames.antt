-- The names that a trace over a machine says: this profile, docs/FORMATS.md, 'Trace'.
use Rattle.std.specs.Prelude.{map}
use Rattle.hz_pipeline_model.specs.Traces.TraceNames.{TraceNames}
use Rattle.hz_pipeline_model.specs.Tables.Machines.{Machine}

-- those of its classes, and for each part those of what is asked for
abbrev pub names_of_machine : Machine → TraceNames
names_of_machine m = record { classes = m.classes; queries = map (λ part. part.asks) m.parts }
