use Rattle.std.proofs.lemmas.Int.{to_z-of_z}
use mir.Syntax.{w128}
use Rattle.hz_sexp.proofs.Digits.{range_fits}
use Rattle.hz_sexp.proofs.Leaves.{tree-atom, tree-number}
use Rattle.hz_sexp.proofs.StepLemmas.{atom_step, number_step, large_number}
use Rattle.hz_sexp.proofs.step.word.Goals as goal

pub returns-in-TooLarge-clause-err : goal.returns-in-TooLarge-clause-err
returns-in-TooLarge-clause-err c = large_number c.args.place.line _ c.requires c.word_length-count.ensures.word c.in-TooLarge.ensures.1 c.in-TooLarge.ensures.2

pub returns-in-Number-clause-ok : goal.returns-in-Number-clause-ok
returns-in-Number-clause-ok c = rw (c.along-after.ensures.rest, c.along-after.ensures.line, to_z-of_z w128 c.in-Number.value (range_fits c.in-Number.value c.in-Number.ensures.1), tree-number c.args.place.line c.in-Number.value)
    (number_step c.args.place.line c.in-Number.value c.requires c.word_length-count.ensures.word c.in-Number.ensures.0 c.in-Number.ensures.1)

pub returns-in_ok-from_slice-in-Other-clause-ok : goal.returns-in_ok-from_slice-in-Other-clause-ok
returns-in_ok-from_slice-in-Other-clause-ok c = rw (c.along-after.ensures.rest, c.along-after.ensures.line, tree-atom c.args.place.line c.new.result, c.new.ensures, c.in_ok-from_slice-in-Other.ensures.items)
    (atom_step c.args.place.line c.requires c.word_length-count.ensures.word c.in-Other.ensures)
