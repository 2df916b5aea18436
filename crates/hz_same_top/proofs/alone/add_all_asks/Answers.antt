use Rattle.std.specs.Prelude.{codes, not}
use Rattle.hz_tables.specs.Machines.{machine_of}
use Rattle.hz_tables.specs.Parts.{part_of}
use Rattle.hz_same_model.specs.Common.{has_ask}
use Rattle.hz_same_model.specs.Texts.{alone_line}
use Rattle.hz_same_top.proofs.LineLaws.{lines_more}
use Rattle.hz_same_top.proofs.alone.add_all_asks.Goals as goal

pub loop-part-preserved : goal.loop-part-preserved
loop-part-preserved c =
    lines_more part_of (alone_line (codes "ask") c.args.file.now) (λ name. not (has_ask (machine_of c.args.other.now) name)) c.args.parts.now c.loop-part.part-index c.part-item.result
    c.args.text.now.items c.loop-part.text.items c.add_asks.new.text.items c.deref.result.now c.loop-part-test.true c.part-item.is c.deref.ensures.value c.loop-part.invariant c.in_ok-add_asks.ensures
