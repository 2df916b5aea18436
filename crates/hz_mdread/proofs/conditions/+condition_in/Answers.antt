use Rattle.std.proofs.Common.{◌≡◌, sym, ap, ◌∙◌, arith, rules}
use Rattle.std.specs.Option.{option_and_then}
use Rattle.std.specs.Str.{bytes_eq}
use Rattle.hz_sexp.specs.Shape.{tree, trees}
use Rattle.hz_description_model.specs.Reading.DescriptionForms.{condition_in, joined}
use Rattle.hz_mdread.specs.Shape.{conditions}
use Rattle.hz_mdread.proofs.TestLemmas.{joined_condition, place_size, test_more, test_all}
use Rattle.hz_mdread.proofs.conditions.+condition_in.Goals as goal

pub condition_in-returns-in-Some-2 : goal.condition_in-returns-in-Some-2
condition_in-returns-in-Some-2 t c =
    let word = c.in-Some.word.now in
    let one = ap (bytes_eq word) (sym c.as_slice.ensures) ∙ (sym c.eq.ensures ∙ c.if-eq.false) in
    let two = ap (bytes_eq word) (sym c.as_slice-2.ensures) ∙ (sym c.eq-2.ensures ∙ c.if-eq-2.false) in
    let said = joined_condition (tree c.args.form.now) word (trees c.in-Some.operands.now) c.in-Some.ensures one two in
    let found = rw c.in-Some-2.is at c.in_ok-tests.ensures in
    let whole : condition_in (tree c.args.form.now) ≡ joined word (conditions c.in-Some-2.tests.items) = said ∙ ap (option_and_then (joined word)) (sym found) in
    rw whole c.joined.ensures

pub condition_in-returns-in-None : goal.condition_in-returns-in-None
condition_in-returns-in-None t c =
    let word = c.in-Some.word.now in
    let one = ap (bytes_eq word) (sym c.as_slice.ensures) ∙ (sym c.eq.ensures ∙ c.if-eq.false) in
    let two = ap (bytes_eq word) (sym c.as_slice-2.ensures) ∙ (sym c.eq-2.ensures ∙ c.if-eq-2.false) in
    let said = joined_condition (tree c.args.form.now) word (trees c.in-Some.operands.now) c.in-Some.ensures one two in
    let found = rw c.in-None.is at c.in_ok-tests.ensures in
    sym (said ∙ ap (option_and_then (joined word)) (sym found))

pub conditions_in-condition_in-requires : goal.conditions_in-condition_in-requires
conditions_in-condition_in-requires t c = let h = place_size c.args.forms.now c.loop-form.form-index c.form-item.result (omega arith) c.form-item.is in search rules

pub conditions_in-loop-form-preserved : goal.conditions_in-loop-form-preserved
conditions_in-loop-form-preserved t c =
    let found = rw c.in-Some.is at c.in_ok-test.ensures in
    rw c.in_ok-push-in-Some.ensures.items
    (test_more c.args.forms.now c.loop-form.form-index c.form-item.result c.loop-form.tests.items c.in-Some.test _ (omega arith) c.form-item.is (sym found) c.loop-form.invariant)

pub conditions_in-returns : goal.conditions_in-returns
conditions_in-returns t c = test_all c.args.forms.now c.loop-form.form-index c.loop-form.tests.items (omega arith) c.loop-form.invariant
