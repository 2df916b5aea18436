use Rattle.hz_timed.proofs.WritingLemmas.{place_is}
use Rattle.hz_timed.proofs.writing.place_at.Goals as goal

pub returns : goal.returns
returns c = place_is c.args.slots.now c.args.number _ c.requires
