use Rattle.std.proofs.Common.{arith}
use Rattle.std.specs.Prelude.{IsTrue}
use Rattle.hz_base_model.specs.Names.{is_name}
use Rattle.hz_tables.specs.declared.part.Part.{Part}
use Rattle.hz_tabfile.proofs.Ranges.{all_more, all_done}
use Rattle.hz_tabfile.proofs.writing.ranges.are_named.Goals as goal

pub loop-part-preserved : goal.loop-part-preserved
loop-part-preserved c = all_more (λ (part : Part). IsTrue (is_name part.name)) c.args.parts.now c.loop-part.part-index c.part-item.result (omega arith) c.part-item.is c.loop-part.invariant c.bytes-bytes.ensures.name

pub returns : goal.returns
returns c = all_done (λ (part : Part). IsTrue (is_name part.name)) c.args.parts.now c.loop-part.part-index (omega arith) c.loop-part.invariant
