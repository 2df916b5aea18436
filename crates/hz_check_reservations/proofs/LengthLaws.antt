-- The shortest and the longest of alternatives that are joined.
use Rattle.std.proofs.Common.{◌≡◌, ℕ, zero, suc, ◌+◌, ◌*◌, ◌≤◌, ◌<◌, min, max, Bool, false, ◌||◌, not, List, [], ◌∷◌, ◌++◌, map, length, ap, ◌∙◌, arith}
use Rattle.std.specs.List.{list_any}
use Rattle.std.proofs.Math.Dec.{eqb}
use Rattle.std.proofs.lemmas.Bool.Decides.{nat_tests}
use Rattle.hz_base_model.specs.Limits.{cycle_limit}
use Rattle.hz_description_model.specs.Reservations.AlternativeLists.{greatest_length}
use Rattle.hz_description_model.specs.Reservations.Alternatives.{Alternative, each_choice, followed_by, beside, copies}
use Rattle.hz_description_model.specs.Splits.Rules.{differ_in_length}
use Rattle.hz_check_reservations.specs.Lengths.{cut_length, least_length}

one_more_differs : (a b least greatest : ℕ) → a ≤ cycle_limit → max b greatest ≤ cycle_limit
    → (not (eqb b a) || not (eqb (min a least) (cut_length (max a greatest)))) ≡ not (eqb (min a (min b least)) (cut_length (max a (max b greatest))))
one_more_differs a b least greatest low high = grind (arith, nat_tests)

one_alone : (a : ℕ) → a ≤ cycle_limit → false ≡ not (eqb (min a (cycle_limit + 1)) (cut_length (max a 0)))
one_alone a low = grind (arith, nat_tests)

module _ {U : Type 0} where
  least_low : (xs : List (Alternative U)) → least_length xs ≤ cycle_limit + 1
  least_low [] = omega arith
  least_low (x ∷ xs) = omega (arith, least_low xs)

  pub least-append : (xs ys : List (Alternative U)) → least_length (xs ++ ys) ≡ min (least_length xs) (least_length ys)
  least-append [] ys = omega (arith, least_low ys)
  least-append (x ∷ xs) ys = let rest = least-append xs ys in omega arith

  least_after : (x : Alternative U) (ys : List (Alternative U)) → least_length (map (followed_by x) ys) ≡ cut_length (x.cycles + least_length ys)
  least_after x [] = omega arith
  least_after x (y ∷ ys) = let rest = least_after x ys in omega arith

  pub least-followed : (xs ys : List (Alternative U)) → least_length (each_choice followed_by xs ys) ≡ cut_length (least_length xs + least_length ys)
  least-followed [] ys = omega arith
  least-followed (x ∷ xs) ys =
      let first = least_after x ys in
      let rest = least-followed xs ys in
      least-append (map (followed_by x) ys) (each_choice followed_by xs ys) ∙ omega arith

  least_with : (x : Alternative U) (ys : List (Alternative U)) → least_length (map (beside x) ys) ≡ cut_length (max x.cycles (least_length ys))
  least_with x [] = omega arith
  least_with x (y ∷ ys) = let rest = least_with x ys in omega arith

  pub least-beside : (xs ys : List (Alternative U)) → least_length (each_choice beside xs ys) ≡ max (least_length xs) (least_length ys)
  least-beside [] ys = omega (arith, least_low ys)
  least-beside (x ∷ xs) ys =
      let first = least_with x ys in
      let rest = least-beside xs ys in
      let low = least_low ys in
      let lower = least_low xs in
      least-append (map (beside x) ys) (each_choice beside xs ys) ∙ omega arith

  pub least-copies : (n : ℕ) (xs : List (Alternative U)) → least_length (copies n xs) ≡ cut_length (least_length xs * n)
  least-copies zero xs = omega arith
  least-copies (suc n) xs =
      let rest = least-copies n xs in
      least-followed xs (copies n xs) ∙ omega arith

  others_differ : (a : ℕ) (xs : List (Alternative U)) → a ≤ cycle_limit → greatest_length xs ≤ cycle_limit
      → list_any (λ b. not (eqb b.cycles a)) xs ≡ not (eqb (min a (least_length xs)) (cut_length (max a (greatest_length xs))))
  others_differ a [] low short = one_alone a low
  others_differ a (x ∷ xs) low short =
      ap (λ (b : Bool). not (eqb x.cycles a) || b) (others_differ a xs low (omega arith))
      ∙ one_more_differs a x.cycles (least_length xs) (greatest_length xs) low short

  pub two_lengths : (xs : List (Alternative U)) → 0 < length xs → greatest_length xs ≤ cycle_limit → differ_in_length xs ≡ not (eqb (least_length xs) (cut_length (greatest_length xs)))
  two_lengths [] h short = absurd (omega arith)
  two_lengths (x ∷ xs) h short = others_differ x.cycles xs (omega arith) (omega arith)
