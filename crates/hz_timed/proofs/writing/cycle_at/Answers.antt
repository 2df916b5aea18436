use Rattle.hz_timed.proofs.WritingLemmas.{cycle_is}
use Rattle.hz_timed.proofs.writing.cycle_at.Goals as goal

pub returns : goal.returns
returns c = cycle_is c.args.slots.now c.args.number _ c.requires
