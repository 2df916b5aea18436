use Rattle.std.proofs.Common.{◌<◌, ◌≤◌, max, length, ⊎_elim, arith, refl, sym, ◌∙◌}
use Rattle.std.proofs.lemmas.Bool.{cases_lt, false≢true}
use Rattle.std.proofs.lemmas.List.{get_or_past}
use Rattle.hz_grid.proofs.WordLemmas.{same_from_words, words_same}
use Rattle.hz_grid.proofs.words.same.Goals as goal

pub returns-then-word_at : goal.returns-then-word_at
returns-then-word_at c = (
  λ t. absurd (false≢true t),
  λ e.
      let reported = words_same c.args.first.now c.args.second.now c.loop-place.place c.requires.first c.requires.second e in
      absurd (c.if-word_at.true (c.word_at.ensures ∙ reported ∙ sym c.word_at-in-loop-place.ensures)),
)

pub returns : goal.returns
returns c =
    let a = c.args.first.now in
    let b = c.args.second.now in (
      λ t. same_from_words a b c.requires.first c.requires.second (λ place. ⊎_elim
          (λ (lt : place < max (length a) (length b)). c.loop-place.invariant place (omega (arith, lt)))
          (λ (past : max (length a) (length b) ≤ place). get_or_past a place 0 (omega arith) ∙ sym (get_or_past b place 0 (omega arith)))
          (cases_lt place (max (length a) (length b)))),
      λ e. refl,
    )
