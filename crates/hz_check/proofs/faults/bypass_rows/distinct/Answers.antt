use Rattle.std.proofs.Common.{◌<◌, ◌++◌, ◌∷◌, [], filter, drop, get_or, ◌+◌, arith, sym, ap, ◌∙◌, append_assoc}
use Rattle.std.proofs.lemmas.Grind.{common_steps}
use Rattle.std.proofs.lemmas.List.Elements.{All-push}
use Rattle.hz_check.specs.Names.First.{first_of}
use Rattle.hz_checked.proofs.RowSteps.{drop_number}
use Rattle.hz_check.proofs.Telling.RowSteps.{stands_before}
use Rattle.hz_check.proofs.faults.bypass_rows.distinct.Goals as goal
use Rattle.hz_check.proofs.faults.bypass_rows.distinct.Goals.{then-branch+in_ok-push, else-branch}

pub loop-number-preserved : goal.loop-number-preserved
loop-number-preserved c =
    let numbers = c.args.numbers.now in
    let i = c.loop-number.number-index in
    let x = get_or numbers i 0 in
    let kept = c.loop-number.kept.items in
    let rest = drop (i + 1) numbers in
    let next = drop_number numbers i c.loop-number-test.true in
    record {
      seen = λ n. grind (arith, common_steps, c.loop-number.invariant.seen n, c.loop-number.invariant.seen (get_or c.args.numbers.now c.loop-number.number-index 0));
      firsts = λ p. elim c.if-branch.branch [
        | then-branch+in_ok-push w ↦ ap (λ ks. first_of (filter p (ks ++ rest))) (ap (λ v. v.items) w.kept-is ∙ w.in_ok-push.ensures.items)
            ∙ (ap (λ ks. first_of (filter p ks)) (append_assoc kept (x ∷ []) rest) ∙ (ap (λ ks. first_of (filter p (kept ++ ks))) (sym next) ∙ c.loop-number.invariant.firsts p))
        | else-branch w ↦ ap (λ v. first_of (filter p (v.items ++ rest))) w.kept-is
            ∙ (sym (stands_before p kept rest x (sym (c.loop-number.invariant.seen x) ∙ grind (arith, c.in_ok-insert.ensures.added, w.if-branch.false))) ∙ (ap (λ ks. first_of (filter p (kept ++ ks))) (sym next) ∙ c.loop-number.invariant.firsts p))
      ];
      within = λ n all. elim c.if-branch.branch [
        | then-branch+in_ok-push w ↦ rw (w.kept-is, w.in_ok-push.ensures.items) (All-push (λ m. m < n) kept x (c.loop-number.invariant.within n all) (all i 0 c.loop-number-test.true))
        | else-branch w ↦ rw w.kept-is (c.loop-number.invariant.within n all)
      ];
    }
