use Rattle.hz_grid.specs.Words.{row_of}
use Rattle.hz_grid.proofs.ShiftLemmas.{after_none, after_there}
use Rattle.hz_grid.proofs.shifting.word_after.Goals as goal

pub returns-then-place-more : goal.returns-then-place-more
returns-then-place-more c bit small = after_none (row_of c.args.words.now) c.args.more c.args.place bit c.if-place-more.true small

pub returns-else-place-more : goal.returns-else-place-more
returns-else-place-more c bit small = rw c.word_at.ensures (after_there c.args.words.now c.args.more c.args.place bit c.requires c.if-place-more.false small)
