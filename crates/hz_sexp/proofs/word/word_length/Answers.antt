use Rattle.std.proofs.Common.{sym}
use Rattle.std.proofs.lemmas.List.{take_rest}
use Rattle.hz_sexp.proofs.Parts.{word_of}
use Rattle.hz_sexp.proofs.word.word_length.Goals as goal

pub returns-clause-word : goal.returns-clause-word
returns-clause-word c = word_of c.loop-count.count c.args.text.now c.loop-count.invariant.on (rw take_rest at (sym c.loop-count-test.ensures))
