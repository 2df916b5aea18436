use Rattle.hz_tables.specs.Machines.{machine_of}
use Rattle.hz_tables.specs.Parts.{part_of}
use Rattle.hz_same_model.specs.Common.{has_ask}
use Rattle.hz_same_top.specs.Names.{names_in}
use Rattle.hz_same_top.proofs.NameLaws.{part_more}
use Rattle.hz_same_top.proofs.tracing.common_asks.Goals as goal

pub loop-part-preserved : goal.loop-part-preserved
loop-part-preserved c =
    part_more part_of (has_ask (machine_of c.args.second.now)) c.args.parts.now c.loop-part.part-index c.part-item.result (names_in c.loop-part.names.items) (names_in c.add_common_asks.new.names.items) c.deref.result.now
    c.loop-part-test.true c.part-item.is c.deref.ensures.value c.loop-part.invariant c.in_ok-add_common_asks.ensures
