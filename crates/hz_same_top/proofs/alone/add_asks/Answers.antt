use Rattle.std.proofs.Common.{ap}
use Rattle.std.specs.Prelude.{codes, not}
use Rattle.hz_tables.specs.Machines.{machine_of}
use Rattle.hz_same_model.specs.Common.{has_ask}
use Rattle.hz_same_model.specs.Texts.{alone_line}
use Rattle.hz_same_top.proofs.LineLaws.{line_more}
use Rattle.hz_same_top.proofs.alone.add_asks.Goals as goal

pub loop-name-preserved : goal.loop-name-preserved
loop-name-preserved c =
    line_more (alone_line (codes "ask") c.args.file.now) (λ name. not (has_ask (machine_of c.args.other.now) name)) c.args.asks.now c.loop-name.name-index c.name-item.result (not c.has_ask.result)
    c.args.text.now.items c.loop-name.text.items c.add_alone.new.text.items c.loop-name-test.true c.name-item.is (ap not c.has_ask.ensures) c.loop-name.invariant c.in_ok-add_alone.ensures
