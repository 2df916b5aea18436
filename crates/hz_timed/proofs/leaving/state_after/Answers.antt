use Rattle.std.proofs.Common.{map}
use Rattle.hz_rtl.specs.Shape.{effect, instructions}
use Rattle.hz_rtl.specs.States.{words}
use Rattle.hz_timed.specs.Leaving.{stored_by}
use Rattle.hz_timed.proofs.LeavingLemmas.{ran, if_left}
use Rattle.hz_timed.proofs.leaving.state_after.Goals as goal

pub returns : goal.returns
returns c =
    if_left c.eval.result (words c.args.start.now) (instructions c.in_ok-block.block) (map stored_by c.args.writes.now) c.eval.ensures
    (ran (instructions c.in_ok-block.block) (map effect c.in_ok-effects.effects.items) (words c.args.start.now) c.args.writes.now c.in_ok-block.ensures c.in_ok-effects.ensures)
