use Rattle.std.proofs.Common.{length}
use Rattle.hz_timed.proofs.WritingLemmas.{place_inside}
use Rattle.hz_timed.proofs.writing.put_read.Goals as goal

pub number_at-number-requires : goal.number_at-number-requires
number_at-number-requires g c = place_inside c.args.slots.now c.args.read.now.slot c.place_at.result (length c.args.block.now.insns.items) c.requires.slot c.requires.places c.place_at.ensures
