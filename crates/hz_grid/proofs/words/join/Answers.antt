use Rattle.std.proofs.Common.{◌<◌, ◌≤◌, ◌≡◌, length, ⊎_elim, arith, sym, ap, ◌∙◌, get_or-set_same, get_or-set_other, length-set, bit_or, get_or}
use Rattle.std.proofs.lemmas.Bool.{cases_lt}
use Rattle.std.proofs.lemmas.List.{get_or_past}
use Rattle.std.proofs.lemmas.Nat.{or_lt}
use Rattle.hz_grid.proofs.WordLemmas.{AreWords-set, word_small, HasUnit-joined, or_nothing}
use Rattle.hz_grid.proofs.words.join.Goals as goal

pub loop-place-preserved : goal.loop-place-preserved
loop-place-preserved c =
    let words = c.loop-place.words in
    let place = c.loop-place.place in
    let word = bit_or (get_or words place 0) (get_or c.args.others.now place 0) in
    let long = c.loop-place.invariant.length in
    let within : place < length words = omega (arith, c.requires.narrow) in
    record {
      length = length-set words place word ∙ long;
      small = AreWords-set words place word c.loop-place.invariant.small (or_lt 64 _ _ (word_small words place c.loop-place.invariant.small) (word_small c.args.others.now place c.requires.others));
      joined = λ k lt. ⊎_elim
          (λ (before : k < place). get_or-set_other words place k word 0 (omega (arith, before)) ∙ c.loop-place.invariant.joined k before)
          (λ (past : place ≤ k).
          let here : k ≡ place = omega (arith, lt, past) in
          rw here (get_or-set_same words place word 0 within ∙ ap (λ w. bit_or w (get_or c.args.others.now place 0)) (c.loop-place.invariant.others place (omega arith))))
          (cases_lt k place);
      others = λ k after. get_or-set_other words place k word 0 (omega (arith, after)) ∙ c.loop-place.invariant.others k (omega (arith, after));
    }

pub returns-clause-units : goal.returns-clause-units
returns-clause-units c =
    HasUnit-joined c.args.words.now c.args.others.now c.loop-place.words c.requires.words c.requires.others c.loop-place.invariant.small (λ place. ⊎_elim
    (λ (lt : place < length c.args.others.now). c.loop-place.invariant.joined place (omega (arith, lt)))
    (λ (past : length c.args.others.now ≤ place).
    c.loop-place.invariant.others place (omega (arith, past)) ∙ sym (or_nothing _) ∙ ap (bit_or (get_or c.args.words.now place 0)) (sym (get_or_past c.args.others.now place 0 past)))
    (cases_lt place (length c.args.others.now)))
