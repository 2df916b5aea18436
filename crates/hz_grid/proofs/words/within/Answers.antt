use Rattle.std.proofs.Common.{◌<◌, ◌≤◌, ◌≡◌, ⊎_elim, arith, refl}
use Rattle.std.proofs.lemmas.Bool.{cases_lt, false≢true}
use Rattle.hz_grid.proofs.Units.{within_from_or, or_from_within}
use Rattle.hz_grid.proofs.WordLemmas.{within_from_words, words_within}
use Rattle.hz_grid.proofs.words.within.Goals as goal

pub returns-then-first-place : goal.returns-then-first-place
returns-then-first-place c = (
  λ t. absurd (false≢true t),
  λ is.
      let reported = or_from_within _ _ (words_within c.args.first.now c.args.second.now c.loop-place.place c.requires.first c.requires.second is) in
      absurd (c.if-first-place.true (rw c.word_at-other.ensures reported)),
)

pub loop-place-preserved : goal.loop-place-preserved
loop-place-preserved c k lt = ⊎_elim
    (λ (before : k < c.loop-place.place). c.loop-place.invariant k before)
    (λ (past : c.loop-place.place ≤ k).
    let here : k ≡ c.loop-place.place = omega (arith, lt, past) in
    rw here (within_from_or _ _ (rw c.word_at-other.ensures at c.if-first-place.false)))
    (cases_lt k c.loop-place.place)

pub returns : goal.returns
returns c = (
  λ t. within_from_words c.args.first.now c.args.second.now c.requires.first c.requires.second (λ place lt. c.loop-place.invariant place (omega (arith, lt))),
  λ is. refl,
)
