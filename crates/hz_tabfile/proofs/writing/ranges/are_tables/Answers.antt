use Rattle.std.proofs.Common.{◌≤◌, length, arith}
use Rattle.hz_pipeline_model.specs.Tables.StateLimits.{state_limit}
use Rattle.hz_tables.specs.Parts.{rows_of}
use Rattle.hz_tables.specs.declared.part.Part.{Part}
use Rattle.hz_tabfile.proofs.Ranges.{all_more, all_done}
use Rattle.hz_tabfile.proofs.writing.ranges.are_tables.Goals as goal

pub loop-part-preserved : goal.loop-part-preserved
loop-part-preserved c = all_more (λ (part : Part). length (rows_of part.table) ≤ state_limit) c.args.parts.now c.loop-part.part-index c.part-item.result (omega arith) c.part-item.is c.loop-part.invariant c.is_table.ensures

pub returns : goal.returns
returns c = all_done (λ (part : Part). length (rows_of part.table) ≤ state_limit) c.args.parts.now c.loop-part.part-index (omega arith) c.loop-part.invariant
