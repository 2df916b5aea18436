use Rattle.std.proofs.Common.{arith}
use Rattle.std.proofs.lemmas.Result.{err_from_is_err_and}
use Rattle.hz_rtl.specs.Codes.{value_code}
use Rattle.hz_sexp.specs.Shape.{tree, trees}
use Rattle.hz_rtl.specs.Shape.{value, unary_operator, binary_operator}
use Rattle.hz_rtl.proofs.HeadLemmas.{headed_size, place_size, value_is, value_unheaded, value_unknown}
use Rattle.hz_rtl.proofs.ValueLemmas.{no_memory, no_unary, no_binary, no_choice, memory_fails, memory_made, unary_fails, unary_made, left_fails, right_fails, binary_made, test_fails, first_fails, second_fails, choice_made}
use Rattle.hz_rtl.proofs.reading.values.+value_of.Goals as goal

pub value_of-returns-in-Some-value_code-clause-ok : goal.value_of-returns-in-Some-value_code-clause-ok
value_of-returns-in-Some-value_code-clause-ok t c = rw (value_is c.args.form.now c.in-Some.word.now c.in-Some.operands.now (value_code c.in-Some-value_code.code) c.in-Some.ensures c.in-Some-value_code.ensures) c.value_with.ensures.ok

pub value_of-returns-in-Some-value_code-clause-err : goal.value_of-returns-in-Some-value_code-clause-err
value_of-returns-in-Some-value_code-clause-err t c = rw (value_is c.args.form.now c.in-Some.word.now c.in-Some.operands.now (value_code c.in-Some-value_code.code) c.in-Some.ensures c.in-Some-value_code.ensures) c.value_with.ensures.err

pub value_of-returns-in-None-clause-err : goal.value_of-returns-in-None-clause-err
value_of-returns-in-None-clause-err t c = value_unknown c.args.form.now c.in-Some.word.now c.in-Some.operands.now c.in-Some.ensures c.in-None.ensures

pub memory_value-returns-then-operands-ne1-clause-err : goal.memory_value-returns-then-operands-ne1-clause-err
memory_value-returns-then-operands-ne1-clause-err t c = no_memory c.args.line c.args.operands.now c.if-operands-ne1.true

pub memory_value-returns-in_err-address-clause-err : goal.memory_value-returns-in_err-address-clause-err
memory_value-returns-in_err-address-clause-err t c =
    let p = err_from_is_err_and c.from_residual.result c.from_residual.ensures.1 in
    rw (p.1, p.2) (memory_fails c.args.line c.args.operands.now c.index-operands-0.result (omega arith) c.index-operands-0.is _ c.in_err-address.ensures.err)

pub memory_value-returns-clause-ok : goal.memory_value-returns-clause-ok
memory_value-returns-clause-ok t c = memory_made c.args.line c.args.operands.now c.index-operands-0.result (omega arith) c.index-operands-0.is (value c.in_ok-address.address) _ c.in_ok-address.ensures.ok c.in_ok-load.ensures

pub unary_value-returns-then-operands-ne1-clause-err : goal.unary_value-returns-then-operands-ne1-clause-err
unary_value-returns-then-operands-ne1-clause-err t c = no_unary c.args.line (unary_operator c.args.operator) c.args.operands.now c.if-operands-ne1.true

pub unary_value-returns-in_err-operand-clause-err : goal.unary_value-returns-in_err-operand-clause-err
unary_value-returns-in_err-operand-clause-err t c =
    let p = err_from_is_err_and c.from_residual.result c.from_residual.ensures.1 in
    rw (p.1, p.2) (unary_fails c.args.line c.args.operands.now c.index-operands-0.result (omega arith) c.index-operands-0.is (unary_operator c.args.operator) _ c.in_err-operand.ensures.err)

pub unary_value-returns-clause-ok : goal.unary_value-returns-clause-ok
unary_value-returns-clause-ok t c = unary_made c.args.line c.args.operands.now c.index-operands-0.result (omega arith) c.index-operands-0.is (unary_operator c.args.operator) (value c.in_ok-operand.operand) _ c.in_ok-operand.ensures.ok c.in_ok-unary.ensures

pub binary_value-returns-then-operands-ne2-clause-err : goal.binary_value-returns-then-operands-ne2-clause-err
binary_value-returns-then-operands-ne2-clause-err t c = no_binary c.args.line (binary_operator c.args.operator) c.args.operands.now c.if-operands-ne2.true

pub binary_value-returns-in_err-left-clause-err : goal.binary_value-returns-in_err-left-clause-err
binary_value-returns-in_err-left-clause-err t c =
    let p = err_from_is_err_and c.from_residual.result c.from_residual.ensures.1 in
    rw (p.1, p.2) (left_fails c.args.line c.args.operands.now (binary_operator c.args.operator) c.index-operands-0.result c.index-operands-1.result (omega arith) c.index-operands-0.is c.index-operands-1.is _ c.in_err-left.ensures.err)

pub binary_value-returns-in_err-right-clause-err : goal.binary_value-returns-in_err-right-clause-err
binary_value-returns-in_err-right-clause-err t c =
    let p = err_from_is_err_and c.from_residual-in_err-right.result c.from_residual-in_err-right.ensures.1 in
    rw (p.1, p.2) (right_fails c.args.line c.args.operands.now (binary_operator c.args.operator) c.index-operands-0.result c.index-operands-1.result (omega arith) c.index-operands-0.is c.index-operands-1.is (value c.in_ok-left.left) _ c.in_ok-left.ensures.ok c.in_err-right.ensures.err)

pub binary_value-returns-clause-ok : goal.binary_value-returns-clause-ok
binary_value-returns-clause-ok t c = binary_made c.args.line c.args.operands.now (binary_operator c.args.operator) c.index-operands-0.result c.index-operands-1.result (omega arith) c.index-operands-0.is c.index-operands-1.is (value c.in_ok-left.left) (value c.in_ok-right.right) _ c.in_ok-left.ensures.ok c.in_ok-right.ensures.ok c.in_ok-binary.ensures

pub choice_value-returns-then-operands-ne3-clause-err : goal.choice_value-returns-then-operands-ne3-clause-err
choice_value-returns-then-operands-ne3-clause-err t c = no_choice c.args.line c.args.operands.now c.if-operands-ne3.true

pub choice_value-returns-in_err-test-clause-err : goal.choice_value-returns-in_err-test-clause-err
choice_value-returns-in_err-test-clause-err t c =
    let p = err_from_is_err_and c.from_residual.result c.from_residual.ensures.1 in
    rw (p.1, p.2) (test_fails c.args.line c.args.operands.now c.index-operands-0.result c.index-operands-1.result c.index-operands-2.result (omega arith) c.index-operands-0.is c.index-operands-1.is c.index-operands-2.is _ c.in_err-test.ensures.err)

pub choice_value-returns-in_err-first-clause-err : goal.choice_value-returns-in_err-first-clause-err
choice_value-returns-in_err-first-clause-err t c =
    let p = err_from_is_err_and c.from_residual-in_err-first.result c.from_residual-in_err-first.ensures.1 in
    rw (p.1, p.2) (first_fails c.args.line c.args.operands.now c.index-operands-0.result c.index-operands-1.result c.index-operands-2.result (omega arith) c.index-operands-0.is c.index-operands-1.is c.index-operands-2.is (value c.in_ok-test.test) _ c.in_ok-test.ensures.ok c.in_err-first.ensures.err)

pub choice_value-returns-in_err-second-clause-err : goal.choice_value-returns-in_err-second-clause-err
choice_value-returns-in_err-second-clause-err t c =
    let p = err_from_is_err_and c.from_residual-in_err-second.result c.from_residual-in_err-second.ensures.1 in
    rw (p.1, p.2) (second_fails c.args.line c.args.operands.now c.index-operands-0.result c.index-operands-1.result c.index-operands-2.result (omega arith) c.index-operands-0.is c.index-operands-1.is c.index-operands-2.is (value c.in_ok-test.test) (value c.in_ok-first.first) _ c.in_ok-test.ensures.ok c.in_ok-first.ensures.ok c.in_err-second.ensures.err)

pub choice_value-returns-clause-ok : goal.choice_value-returns-clause-ok
choice_value-returns-clause-ok t c = choice_made c.args.line c.args.operands.now c.index-operands-0.result c.index-operands-1.result c.index-operands-2.result (omega arith) c.index-operands-0.is c.index-operands-1.is c.index-operands-2.is (value c.in_ok-test.test) (value c.in_ok-first.first) (value c.in_ok-second.second) _ c.in_ok-test.ensures.ok c.in_ok-first.ensures.ok c.in_ok-second.ensures.ok c.in_ok-choice.ensures

pub value_of-returns-in_default-clause-err : goal.value_of-returns-in_default-clause-err
value_of-returns-in_default-clause-err t c = value_unheaded c.args.form.now c.in_default.ensures

pub memory_value-value_of-requires : goal.memory_value-value_of-requires
memory_value-value_of-requires t c =
    let smaller = place_size c.args.operands.now 0 c.index-operands-0.result (omega arith) c.index-operands-0.is in
    (omega (arith, smaller, c.decreases), tt)

pub unary_value-value_of-requires : goal.unary_value-value_of-requires
unary_value-value_of-requires t c =
    let smaller = place_size c.args.operands.now 0 c.index-operands-0.result (omega arith) c.index-operands-0.is in
    (omega (arith, smaller, c.decreases), tt)

pub binary_value-value_of-requires : goal.binary_value-value_of-requires
binary_value-value_of-requires t c =
    let smaller = place_size c.args.operands.now 0 c.index-operands-0.result (omega arith) c.index-operands-0.is in
    (omega (arith, smaller, c.decreases), tt)

pub binary_value-value_of-requires-2 : goal.binary_value-value_of-requires-2
binary_value-value_of-requires-2 t c =
    let smaller = place_size c.args.operands.now 1 c.index-operands-1.result (omega arith) c.index-operands-1.is in
    (omega (arith, smaller, c.decreases), tt)

pub choice_value-value_of-requires : goal.choice_value-value_of-requires
choice_value-value_of-requires t c =
    let smaller = place_size c.args.operands.now 0 c.index-operands-0.result (omega arith) c.index-operands-0.is in
    (omega (arith, smaller, c.decreases), tt)

pub choice_value-value_of-requires-2 : goal.choice_value-value_of-requires-2
choice_value-value_of-requires-2 t c =
    let smaller = place_size c.args.operands.now 1 c.index-operands-1.result (omega arith) c.index-operands-1.is in
    (omega (arith, smaller, c.decreases), tt)

pub choice_value-value_of-requires-3 : goal.choice_value-value_of-requires-3
choice_value-value_of-requires-3 t c =
    let smaller = place_size c.args.operands.now 2 c.index-operands-2.result (omega arith) c.index-operands-2.is in
    (omega (arith, smaller, c.decreases), tt)

pub value_with-memory_value-requires : goal.value_with-memory_value-requires
value_with-memory_value-requires t c = (omega (arith, c.decreases), tt)

pub value_with-choice_value-requires : goal.value_with-choice_value-requires
value_with-choice_value-requires t c = (omega (arith, c.decreases), tt)

pub value_with-unary_value-requires : goal.value_with-unary_value-requires
value_with-unary_value-requires t c = (omega (arith, c.decreases), tt)

pub value_with-binary_value-requires : goal.value_with-binary_value-requires
value_with-binary_value-requires t c = (omega (arith, c.decreases), tt)

pub value_of-value_with-requires : goal.value_of-value_with-requires
value_of-value_with-requires t c =
    let smaller = headed_size (tree c.args.form.now) c.in-Some.word.now (trees c.in-Some.operands.now) c.in-Some.ensures in
    (omega (arith, smaller, c.decreases), tt)

pub memory_value-returns-in_err-load-clause-err : goal.memory_value-returns-in_err-load-clause-err
memory_value-returns-in_err-load-clause-err t c =
    let p = err_from_is_err_and c.from_residual-in_err-load.result c.from_residual-in_err-load.ensures.1 in
    rw (p.1, p.2) tt

pub unary_value-returns-in_err-unary-clause-err : goal.unary_value-returns-in_err-unary-clause-err
unary_value-returns-in_err-unary-clause-err t c =
    let p = err_from_is_err_and c.from_residual-in_err-unary.result c.from_residual-in_err-unary.ensures.1 in
    rw (p.1, p.2) tt

pub binary_value-returns-in_err-binary-clause-err : goal.binary_value-returns-in_err-binary-clause-err
binary_value-returns-in_err-binary-clause-err t c =
    let p = err_from_is_err_and c.from_residual-in_err-binary.result c.from_residual-in_err-binary.ensures.1 in
    rw (p.1, p.2) tt

pub choice_value-returns-in_err-choice-clause-err : goal.choice_value-returns-in_err-choice-clause-err
choice_value-returns-in_err-choice-clause-err t c =
    let p = err_from_is_err_and c.from_residual-in_err-choice.result c.from_residual-in_err-choice.ensures.1 in
    rw (p.1, p.2) tt
