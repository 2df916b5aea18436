use Rattle.std.proofs.Common.{◌<◌, ◌≤◌, length, arith, refl, ⊎_elim}
use Rattle.std.proofs.lemmas.Bool.{cases_lt, false≢true}
use Rattle.std.proofs.lemmas.List.{get_or_past}
use Rattle.hz_grid.proofs.Differences.{above_from_shift, shift_from_above}
use Rattle.hz_grid.proofs.WordLemmas.{above_in_word, above_in_later, none_above}
use Rattle.hz_grid.proofs.words.has_above.Goals as goal

pub returns-then-word_at-unit-gt1 : goal.returns-then-word_at-unit-gt1
returns-then-word_at-unit-gt1 c = (
  λ t. above_in_word c.args.words.now c.args.unit c.requires (rw (← c.word_at.ensures) (above_from_shift _ _ c.if-word_at-unit-gt1.true)),
  λ h. refl,
)

pub returns-then-words-place-ne0 : goal.returns-then-words-place-ne0
returns-then-words-place-ne0 c = (
  λ t. above_in_later c.args.words.now c.args.unit c.loop-place.place c.requires (omega (arith, c.loop-place.auto.place)) c.if-words-place-ne0.true,
  λ h. refl,
)

pub returns : goal.returns
returns c =
    let words = c.args.words.now in (
      λ t. absurd (false≢true t),
      λ h. absurd (none_above words c.args.unit c.requires (rw (← c.word_at.ensures) (shift_from_above _ _ c.if-word_at-unit-gt1.false))
          (λ k after. ⊎_elim
          (λ (lt : k < length words). c.loop-place.invariant k after (omega (arith, lt)))
          (λ (past : length words ≤ k). get_or_past words k 0 past)
          (cases_lt k (length words))) h),
    )
