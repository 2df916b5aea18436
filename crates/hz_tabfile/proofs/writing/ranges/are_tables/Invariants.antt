use Rattle.std.proofs.Common.{◌≤◌, take, length}
use Rattle.std.specs.Prelude.{All}
use Rattle.hz_pipeline_model.specs.Tables.StateLimits.{state_limit}
use Rattle.hz_tables.specs.Parts.{rows_of}
use Rattle.hz_tabfile.proofs.writing.ranges.are_tables.Given as goal

abbrev pub invariant-loop-part : goal.invariant-loop-part
invariant-loop-part l = All (λ part. length (rows_of part.table) ≤ state_limit) (take l.part-index l.parts)
