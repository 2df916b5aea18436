-- A part that is too large makes the whole too large.
use Rattle.std.proofs.Common.{◌<◌, ◌≤◌, List, [], ◌∷◌, ◌++◌, length, map, All, ap, arith, length-append}
use Rattle.std.proofs.lemmas.List.{length-map}
use Rattle.std.proofs.lemmas.List.Elements.{All-head, All-tail}
use Rattle.hz_altern.specs.declared.listing.joining.Joining.{Joining}
use Rattle.hz_altern.specs.declared.listing.joining.Joining.TheVariants.{InSequence, Together}
use Rattle.hz_altern.specs.declared.mark.Mark.{Mark}
use Rattle.hz_altern.specs.declared.mark.Mark.TheVariants.{Comma, Bar, Plus}
use Rattle.hz_altern.specs.Answers.{weight, total_weight}
use Rattle.hz_altern.specs.Joinings.{IsListed, joined_by, listed_lists}
use Rattle.hz_altern.proofs.Weights.{weight-append, weight-cons}
use Rattle.hz_altern.proofs.MergeLemmas.{swapped}
use Rattle.hz_base_model.specs.Pairs.{Pair, placed, later, with_pair_by}
use Rattle.hz_description_model.specs.Reservations.Alternatives.{Alternative, each_choice}
use Rattle.hz_description_model.specs.Reservations.Automata.{UnitPlace, ascending, place_cmp}
use Rattle.hz_description_model.proofs.Reservations.AscendingLaws.{with_pair_cases, ascending_itself}

-- ---- pairs of two lists

more_with_pair : (p : Pair UnitPlace) (qs : List (Pair UnitPlace)) → length qs ≤ length (with_pair_by place_cmp p qs)
more_with_pair p [] = omega arith
more_with_pair p (q ∷ qs) =
    let rest = more_with_pair p qs in
    with_pair_cases p q qs (λ ws. length (q ∷ qs) ≤ length ws) (λ _. omega arith) (λ _. omega arith) (λ _. omega arith)

more_pairs : (ps qs : List (Pair UnitPlace)) → length (ascending qs) ≤ length (ascending (ps ++ qs))
more_pairs [] qs = omega arith
more_pairs (p ∷ ps) qs = let rest = more_pairs ps qs in let one = more_with_pair p (ascending (ps ++ qs)) in omega arith

more_pairs_after : (ps qs : List (Pair UnitPlace)) → length (ascending ps) ≤ length (ascending (ps ++ qs))
more_pairs_after ps qs = rw (swapped ps qs) (more_pairs qs ps)

-- ---- two alternatives

pub first_weighs : (joining : Joining) (a b : Alternative UnitPlace) → IsListed a → IsListed b → weight a ≤ weight (joined_by joining a b)
first_weighs InSequence a b is_a is_b = let long = length-append a.pairs (placed a.cycles b.pairs) in omega arith
first_weighs Together a b is_a is_b =
    let more = more_pairs_after a.pairs b.pairs in
    let same = ap length (ascending_itself a.pairs is_a.ascending) in
    omega arith

pub second_weighs : (joining : Joining) (a b : Alternative UnitPlace) → IsListed a → IsListed b → weight b ≤ weight (joined_by joining a b)
second_weighs InSequence a b is_a is_b = let long = length-append a.pairs (placed a.cycles b.pairs) in let same = length-map b.pairs (later a.cycles) in omega arith
second_weighs Together a b is_a is_b =
    let more = more_pairs a.pairs b.pairs in
    let same = ap length (ascending_itself b.pairs is_b.ascending) in
    omega arith

-- ---- choices of two lists

module _ (joining : Joining) where
  one_weighs : (a : Alternative UnitPlace) (ys : List (Alternative UnitPlace)) → IsListed a → All IsListed ys → 0 < length ys → weight a ≤ total_weight (map (joined_by joining a) ys)
  one_weighs a [] is each h = absurd (omega arith)
  one_weighs a (y ∷ ys) is each h = let first = first_weighs joining a y is (All-head IsListed y ys each) in omega (arith, weight-cons (joined_by joining a y) (map (joined_by joining a) ys))

  others_weigh : (a : Alternative UnitPlace) (ys : List (Alternative UnitPlace)) → IsListed a → All IsListed ys → total_weight ys ≤ total_weight (map (joined_by joining a) ys)
  others_weigh a [] is each = omega arith
  others_weigh a (y ∷ ys) is each =
      let first = second_weighs joining a y is (All-head IsListed y ys each) in
      let rest = others_weigh a ys is (All-tail IsListed y ys each) in
      omega (arith, weight-cons y ys, weight-cons (joined_by joining a y) (map (joined_by joining a) ys))

  pub firsts_weigh : (xs ys : List (Alternative UnitPlace)) → All IsListed xs → All IsListed ys → 0 < length ys → total_weight xs ≤ total_weight (each_choice (joined_by joining) xs ys)
  firsts_weigh [] ys are each h = omega arith
  firsts_weigh (x ∷ xs) ys are each h =
      let first = one_weighs x ys (All-head IsListed x xs are) each h in
      let rest = firsts_weigh xs ys (All-tail IsListed x xs are) each h in
      omega (arith, weight-cons x xs, weight-append (map (joined_by joining x) ys) (each_choice (joined_by joining) xs ys))

  pub seconds_weigh : (xs ys : List (Alternative UnitPlace)) → All IsListed xs → All IsListed ys → 0 < length xs → total_weight ys ≤ total_weight (each_choice (joined_by joining) xs ys)
  seconds_weigh [] ys are each h = absurd (omega arith)
  seconds_weigh (x ∷ xs) ys are each h =
      let first = others_weigh x ys (All-head IsListed x xs are) each in
      omega (arith, weight-append (map (joined_by joining x) ys) (each_choice (joined_by joining) xs ys))

-- each of two lists with a mark between them
pub parts_weigh : (mark : Mark) (xs ys : List (Alternative UnitPlace)) → All IsListed xs → All IsListed ys → 0 < length xs → 0 < length ys → (total_weight xs ≤ total_weight (listed_lists mark xs ys)) × (total_weight ys ≤ total_weight (listed_lists mark xs ys))
parts_weigh Comma xs ys are each h k = (firsts_weigh InSequence xs ys are each k, seconds_weigh InSequence xs ys are each h)
parts_weigh Bar xs ys are each h k = (omega (arith, weight-append xs ys), omega (arith, weight-append xs ys))
parts_weigh Plus xs ys are each h k = (firsts_weigh Together xs ys are each k, seconds_weigh Together xs ys are each h)
