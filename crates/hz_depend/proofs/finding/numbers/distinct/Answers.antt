use Rattle.std.proofs.Common.{◌<◌, ◌++◌, ◌∷◌, ◌==◌, [], drop, get_or, ◌+◌, arith, sym, ap, ◌∙◌, append_assoc}
use Rattle.std.proofs.lemmas.Grind.{common_steps}
use Rattle.std.proofs.lemmas.List.Elements.{All-push}
use Rattle.std.specs.List.{list_any}
use Rattle.hz_checked.proofs.RowSteps.{drop_number}
use Rattle.hz_depend.proofs.OnceLemmas.{listed_before, once_next}
use Rattle.hz_depend.proofs.finding.numbers.distinct.Goals as goal
use Rattle.hz_depend.proofs.finding.numbers.distinct.Goals.{then-branch+in_ok-push, else-branch}

pub loop-number-preserved : goal.loop-number-preserved
loop-number-preserved c =
    let numbers = c.args.numbers.now in
    let i = c.loop-number.number-index in
    let x = get_or numbers i 0 in
    let kept = c.loop-number.kept.items in
    let rest = drop (i + 1) numbers in
    let next = drop_number numbers i c.loop-number-test.true in
    record {
      seen = λ n. grind (arith, common_steps, c.loop-number.invariant.seen n, c.loop-number.invariant.seen (get_or c.args.numbers.now c.loop-number.number-index 0));
      same = λ n. elim c.if-branch.branch [
        | then-branch+in_ok-push w ↦ ap (λ ks. list_any (λ m. m == n) (ks ++ rest)) (ap (λ v. v.items) w.kept-is ∙ w.in_ok-push.ensures.items)
            ∙ (ap (λ ks. list_any (λ m. m == n) ks) (append_assoc kept (x ∷ []) rest) ∙ (ap (λ ks. list_any (λ m. m == n) (kept ++ ks)) (sym next) ∙ c.loop-number.invariant.same n))
        | else-branch w ↦ ap (λ v. list_any (λ m. m == n) (v.items ++ rest)) w.kept-is
            ∙ (sym (listed_before n kept rest x (sym (c.loop-number.invariant.seen x) ∙ grind (arith, c.in_ok-insert.ensures.added, w.if-branch.false))) ∙ (ap (λ ks. list_any (λ m. m == n) (kept ++ ks)) (sym next) ∙ c.loop-number.invariant.same n))
      ];
      once = elim c.if-branch.branch [
        | then-branch+in_ok-push w ↦ rw (w.kept-is, w.in_ok-push.ensures.items) (once_next kept x c.loop-number.invariant.once (sym (c.loop-number.invariant.seen x) ∙ grind (arith, c.in_ok-insert.ensures.added, w.if-branch.true)))
        | else-branch w ↦ rw w.kept-is c.loop-number.invariant.once
      ];
      within = λ n all. elim c.if-branch.branch [
        | then-branch+in_ok-push w ↦ rw (w.kept-is, w.in_ok-push.ensures.items) (All-push (λ m. m < n) kept x (c.loop-number.invariant.within n all) (all i 0 c.loop-number-test.true))
        | else-branch w ↦ rw w.kept-is (c.loop-number.invariant.within n all)
      ];
    }
