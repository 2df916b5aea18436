use Rattle.std.proofs.Common.{◌≤◌, length, Some, sym, ap, ◌∙◌, arith}
use Rattle.std.specs.Str.{bytes_eq}
use Rattle.hz_mdread.proofs.ConditionLemmas.{and_joined, ior_joined}
use Rattle.hz_mdread.proofs.ConditionViews.{condition_and, condition_ior}
use Rattle.hz_mdread.proofs.conditions.joined.Goals as goal

pub returns-then-eq-2 : goal.returns-then-eq-2
returns-then-eq-2 c =
    let word = c.args.word.now in
    let other = ap (bytes_eq word) (sym c.as_slice.ensures) ∙ (sym c.eq.ensures ∙ c.if-eq.false) in
    let long : 2 ≤ length c.args.tests.items = omega arith in
    ap Some (condition_and c.args.tests) ∙ and_joined word c.args.tests.items long other (ap (bytes_eq word) (sym c.as_slice-else-len-lt2.ensures) ∙ (sym c.eq-else-len-lt2.ensures ∙ c.if-eq-2.true))

pub returns-then-eq-3 : goal.returns-then-eq-3
returns-then-eq-3 c =
    let word = c.args.word.now in
    let other = ap (bytes_eq word) (sym c.as_slice.ensures) ∙ (sym c.eq.ensures ∙ c.if-eq.false) in
    let long : 2 ≤ length c.args.tests.items = omega arith in
    ap Some (condition_ior c.args.tests) ∙ ior_joined word c.args.tests.items long other (ap (bytes_eq word) (sym c.as_slice-else-len-lt2.ensures) ∙ (sym c.eq-else-len-lt2.ensures ∙ c.if-eq-2.false))
    (ap (bytes_eq word) (sym c.as_slice-else-eq-2.ensures) ∙ (sym c.eq-else-eq-2.ensures ∙ c.if-eq-3.true))
