use Rattle.std.proofs.Common.{map}
use Rattle.hz_tables.specs.Machines.{machine_of}
use Rattle.hz_tables.specs.Parts.{part_of}
use Rattle.hz_same_model.specs.Common.{has_ask, ask_of}
use Rattle.hz_product.specs.Symbols.{event_of}
use Rattle.hz_product.proofs.EventLists.{more_asks}
use Rattle.hz_product.proofs.symbols.add_all_asks.Goals as goal

pub loop-part-preserved : goal.loop-part-preserved
loop-part-preserved c =
    more_asks part_of (ask_of (machine_of c.args.machine.now)) (has_ask (machine_of c.args.second.now)) c.args.parts.now c.loop-part.part-index c.part-item.result
    (map event_of c.args.events.now.items) (map event_of c.loop-part.events.items) (map event_of c.add_asks.new.events.items) c.deref.result.now
    c.loop-part-test.true c.part-item.is c.deref.ensures.value c.loop-part.invariant c.in_ok-add_asks.ensures
