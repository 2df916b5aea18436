use Rattle.std.proofs.Common.{refl, arith}
use Rattle.hz_mdread.specs.Shape.{description}
use Rattle.hz_mdread.proofs.FormLemmas.{string_at}
use Rattle.hz_mdread.proofs.ReaderLemmas.{count_is, all_read, read_formed, fault_read}
use Rattle.hz_mdread.proofs.reader.read_description.Goals as goal

pub overflow_cast-number : goal.overflow_cast-number
overflow_cast-number c = omega (arith, count_is c.args.forms.now)

pub form_says-requires : goal.form_says-requires
form_says-requires c = string_at _ c.args.forms.now c.loop-number.number c.index-forms-number.result c.requires.strings (omega arith) c.index-forms-number.is

pub returns-in-Err-clause-faults : goal.returns-in-Err-clause-faults
returns-in-Err-clause-faults c =
    rw c.at.ensures
    (fault_read c.args.forms.now c.loop-number.number c.index-forms-number.result (description c.loop-number.description) _ c.in-Err.wrong (omega arith) c.index-forms-number.is refl c.loop-number.invariant c.in-Err.ensures.err)

pub returns-clause-reads : goal.returns-clause-reads
returns-clause-reads c = all_read c.args.forms.now c.loop-number.number (description c.loop-number.description) (omega arith) c.loop-number.invariant

pub returns-clause-formed : goal.returns-clause-formed
returns-clause-formed c =
    read_formed c.args.forms.now (description c.loop-number.description) (all_read c.args.forms.now c.loop-number.number (description c.loop-number.description) (omega arith) c.loop-number.invariant)
