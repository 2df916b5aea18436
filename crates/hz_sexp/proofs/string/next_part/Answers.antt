use Rattle.std.proofs.Common.{sym}
use Rattle.hz_base_model.specs.Forms.Forms.{Faulty}
use Rattle.hz_sexp.proofs.Parts.{part_plain}
use Rattle.hz_sexp.proofs.string.next_part.Goals as goal

pub returns-in_default-clause-err : goal.returns-in_default-clause-err
returns-in_default-clause-err c = λ opened b text bytes e part. Faulty.open_string e (rw c.in_default.ensures at part)

pub returns-then-is_string_byte-clause-ok : goal.returns-then-is_string_byte-clause-ok
returns-then-is_string_byte-clause-ok c = part_plain _ _ c.in-Some.b _ _ c.in-Some.ensures.0 c.in-Some.ensures.1 (sym c.if-is_string_byte.ensures) c.if-b-eq34.false c.if-b-eq92.false

pub returns-else-is_string_byte-clause-err : goal.returns-else-is_string_byte-clause-err
returns-else-is_string_byte-clause-err c = λ opened b text bytes e part. Faulty.foreign_in_string e (rw c.in-Some.ensures.0 at part) (sym c.if-is_string_byte.ensures)
