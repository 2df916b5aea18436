use Rattle.std.proofs.Common.{◌<◌, ◌≤◌, ◌≡◌, ⊎_elim, arith, refl}
use Rattle.std.proofs.lemmas.Bool.{cases_lt, false≢true}
use Rattle.hz_grid.proofs.Units.{meet_from_and, apart_from_and}
use Rattle.hz_grid.proofs.WordLemmas.{meet_from_word, apart_from_words}
use Rattle.hz_grid.proofs.words.meet.Goals as goal

pub returns-then-first-place-ne0 : goal.returns-then-first-place-ne0
returns-then-first-place-ne0 c = (
  λ t. meet_from_word c.args.first.now c.args.second.now c.loop-place.place c.requires.first c.requires.second (meet_from_and _ _ c.if-first-place-ne0.true),
  λ m. refl,
)

pub loop-place-preserved : goal.loop-place-preserved
loop-place-preserved c k lt = ⊎_elim
    (λ (before : k < c.loop-place.place). c.loop-place.invariant k before)
    (λ (past : c.loop-place.place ≤ k).
    let here : k ≡ c.loop-place.place = omega (arith, lt, past) in
    rw here (apart_from_and _ _ c.if-first-place-ne0.false))
    (cases_lt k c.loop-place.place)

pub returns : goal.returns
returns c = (
  λ t. absurd (false≢true t),
  λ meets. absurd (apart_from_words c.args.first.now c.args.second.now c.requires.first c.requires.second (λ place in_first in_second. c.loop-place.invariant place (omega (arith, in_first, in_second))) meets),
)
