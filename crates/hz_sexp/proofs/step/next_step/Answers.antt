use Rattle.std.proofs.Common.{sym}
use Rattle.std.proofs.lemmas.Result.{err_from_is_err_and}
use Rattle.hz_base_model.specs.Forms.Forms.{Step, Faulty}
use Rattle.hz_sexp.proofs.Leaves.{tree-quoted}
use Rattle.hz_sexp.proofs.StepLemmas.{string_wrong}
use Rattle.hz_sexp.proofs.step.next_step.Goals as goal

pub returns-in_err-text-in-Quote-clause-err : goal.returns-in_err-text-in-Quote-clause-err
returns-in_err-text-in-Quote-clause-err c =
    let p = err_from_is_err_and c.from_residual-in_err-text-in-Quote.result c.from_residual-in_err-text-in-Quote.ensures.1 in
    let inside = rw (c.along-in-Quote.ensures.rest, c.along-in-Quote.ensures.line, c.requires.byte) at c.in_err-text-in-Quote.ensures.err in
    rw (p.1, p.2, c.requires.byte) (string_wrong c.args.place.line c.args.b c.args.next.rest.now (sym c.in-Quote.ensures) _ inside)

pub returns-in-Blank-clause-ok : goal.returns-in-Blank-clause-ok
returns-in-Blank-clause-ok c = rw (c.requires.byte, c.requires.line) (Step.white (sym c.in-Blank.ensures))

pub returns-in-Semicolon-clause-ok : goal.returns-in-Semicolon-clause-ok
returns-in-Semicolon-clause-ok c = rw (c.end_of_line.ensures.rest, c.end_of_line.ensures.line, c.along.ensures.rest, c.along.ensures.line, c.requires.byte) (Step.line_comment (sym c.in-Semicolon.ensures))

pub returns-in_ok-text-in-Quote-clause-ok : goal.returns-in_ok-text-in-Quote-clause-ok
returns-in_ok-text-in-Quote-clause-ok c =
    let inside = rw (c.along-in-Quote.ensures.rest, c.along-in-Quote.ensures.line, c.requires.byte) at c.in_ok-text-in-Quote.ensures.ok in
    rw (tree-quoted c.args.place.line c.in_ok-text-in-Quote.text, c.requires.byte) (Step.string (sym c.in-Quote.ensures) inside)

pub returns-in-Foreign-clause-err : goal.returns-in-Foreign-clause-err
returns-in-Foreign-clause-err c = λ opened. rw c.requires.byte (Faulty.foreign_byte (sym c.in-Foreign.ensures))

pub returns-in-Opener-clause-ok : goal.returns-in-Opener-clause-ok
returns-in-Opener-clause-ok c = rw (c.along-in-Opener.ensures.rest, c.along-in-Opener.ensures.line, c.requires.byte) (Step.opening (sym c.in-Opener.ensures))

pub returns-in-Closer-clause-ok : goal.returns-in-Closer-clause-ok
returns-in-Closer-clause-ok c = rw (c.along-in-Closer.ensures.rest, c.along-in-Closer.ensures.line, c.requires.byte) (Step.closing (sym c.in-Closer.ensures))
