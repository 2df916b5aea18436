use Rattle.std.proofs.Common.{arith, map}
use Rattle.hz_sexp.specs.Shape.{trees}
use Rattle.hz_rtl.specs.Shape.{instruction}
use Rattle.hz_rtl.proofs.ReaderLemmas.{instructions_end, few_read}
use Rattle.hz_rtl.proofs.reading.reader.read_block.Goals as goal

pub returns-clause-few : goal.returns-clause-few
returns-clause-few c = few_read (trees c.args.forms.now) c.loop-form.insns.items (instructions_end c.args.forms.now c.loop-form.form-index (map instruction c.loop-form.insns.items) (omega arith) c.loop-form.invariant)
