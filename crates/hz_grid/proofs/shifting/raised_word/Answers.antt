use Rattle.std.proofs.Common.{◌/◌, ◌%◌, arith}
use Rattle.hz_grid.specs.Words.{row_of}
use Rattle.hz_grid.proofs.ShiftLemmas.{raised_bits}
use Rattle.hz_grid.proofs.shifting.raised_word.Goals as goal

pub returns-else-rest-eq0 : goal.returns-else-rest-eq0
returns-else-rest-eq0 c = raised_bits c.word_after-here.result c.word_after.result (row_of c.args.words.now) c.args.by (c.args.by / 64) (c.args.by % 64) c.args.place c.word_after.type_inv (omega (arith, c.if-rest-eq0.false)) (omega arith) (omega arith) c.word_after-here.ensures c.word_after.ensures
