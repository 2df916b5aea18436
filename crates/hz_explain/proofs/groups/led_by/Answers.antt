use Rattle.std.proofs.Common.{arith}
use Rattle.hz_explain.proofs.GroupingLaws.{led_next}
use Rattle.hz_explain.proofs.groups.led_by.Goals as goal

pub loop-other-preserved : goal.loop-other-preserved
loop-other-preserved c =
    led_next c.args.place c.args.leaders.now c.loop-other.other c.loop-other.numbers.items _ _ (omega arith) c.loop-other.invariant c.in_ok-add_if_led.ensures
