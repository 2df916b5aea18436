use Rattle.std.proofs.Common.{◌<◌, ◌≤◌, ◌∙◌, max, length, sym, arith, ⊎_elim}
use Rattle.std.proofs.lemmas.Bool.{cases_lt}
use Rattle.std.proofs.lemmas.List.{get_or_past}
use Rattle.hz_grid.proofs.WordLemmas.{DifferAt-words, same_from_words, same_has_no_xor}
use Rattle.hz_grid.proofs.words.first_difference.Goals as goal

pub returns-then-both-ne0 : goal.returns-then-both-ne0
returns-then-both-ne0 c =
    let few : c.loop-place.place < 4 = omega (arith, c.requires.few, c.requires.other_few) in
    rw (c.word_at.ensures, c.word_at-in-loop-place.ensures) (DifferAt-words c.args.first.now c.args.second.now c.loop-place.place c.requires.first c.requires.second few c.loop-place.invariant
    (λ e. c.if-both-ne0.true (same_has_no_xor _ _ (c.word_at.ensures ∙ e ∙ sym c.word_at-in-loop-place.ensures))))

pub unreachable-requires : goal.unreachable-requires
unreachable-requires c =
    let a = c.args.first.now in
    let b = c.args.second.now in
    c.requires.differ (same_from_words a b c.requires.first c.requires.second (λ place. ⊎_elim
    (λ (lt : place < max (length a) (length b)). c.loop-place.invariant place (omega (arith, lt)))
    (λ (past : max (length a) (length b) ≤ place). get_or_past a place 0 (omega arith) ∙ sym (get_or_past b place 0 (omega arith)))
    (cases_lt place (max (length a) (length b)))))
