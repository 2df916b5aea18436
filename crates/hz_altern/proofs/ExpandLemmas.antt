-- Which limit alternatives pass, and what is answered for them.
use Rattle.std.proofs.Common.{◌≡◌, ℕ, ◌<◌, ◌≤◌, min, List, [], ◌∷◌, length, map, All, Some, None, Err, refl, ap, arith, ◌+◌}
use Rattle.std.proofs.lemmas.Bool.{lt-ltb, le-ltb}
use Rattle.std.proofs.lemmas.List.{length-map}
use Rattle.std.proofs.lemmas.List.Sums.{sum_by-append}
use Rattle.hz_base_model.specs.Limits.{cycle_limit}
use Rattle.hz_description_model.specs.Reservations.Limits.{alternative_limit}
use Rattle.hz_altern.specs.declared.fault.AlternFault.{AlternFault}
use Rattle.hz_altern.specs.declared.fault.AlternFault.TheVariants.{AlternativesLimit, CyclesLimit, SizeLimit, NoMemory}
use Rattle.hz_altern.specs.declared.extents.measure.Extent.{Extent}
use Rattle.hz_altern.specs.Answers.{total_weight, Refuses, Expands}
use Rattle.hz_altern.specs.Extents.{reported}
use Rattle.hz_altern.proofs.KnownLemmas.{all_listed}
use Rattle.hz_altern.proofs.Lengths.{length_within}
use Rattle.hz_altern.proofs.Weights.{weight-cons}
use Rattle.hz_altern.proofs.HalfLemmas.{greatest-listed}
use Rattle.hz_description_model.specs.Reservations.Alternatives.{Alternative}
use Rattle.hz_description_model.specs.Reservations.AlternativeLists.{extent_of, excess_of, too_many, too_long, too_large, greatest_length, IsPlaced, AreSound}
use Rattle.hz_description_model.specs.Reservations.Automata.{UnitPlace, listed, size_of, total_size}

-- listed alternatives are as large as they count
pub total_listed : (all : List (Alternative UnitPlace)) → total_weight (map listed all) ≡ total_size all
total_listed [] = refl
total_listed (x ∷ xs) = omega (arith, weight-cons (listed x) (map listed xs), sum_by-append size_of (x ∷ []) xs, total_listed xs)

-- what an extent tells of alternatives
module _ (all : List (Alternative UnitPlace)) (extent : Extent) (is : reported extent ≡ extent_of all) where
  count_is : extent.count ≡ min (length all) (alternative_limit + 1)
  count_is = ap (λ e. e.count) is

  longest_is : extent.longest ≡ min (greatest_length all) (cycle_limit + 1)
  longest_is = ap (λ e. e.longest) is

  pub many : (most : ℕ) → alternative_limit < extent.count → excess_of most all ≡ Some too_many
  many most h =
      let over : alternative_limit < length all = omega (arith, count_is) in
      rw (lt-ltb alternative_limit (length all) over) refl

  pub few : extent.count ≤ alternative_limit → length all ≤ alternative_limit
  few h = omega (arith, count_is)

  pub short : extent.longest ≤ cycle_limit → greatest_length all ≤ cycle_limit
  short h = omega (arith, longest_is)

  pub long : (most : ℕ) → extent.count ≤ alternative_limit → cycle_limit < extent.longest → excess_of most all ≡ Some too_long
  long most h k =
      let over : cycle_limit < greatest_length all = omega (arith, longest_is) in
      rw (le-ltb alternative_limit (length all) (few h), lt-ltb cycle_limit (greatest_length all) over) refl

-- alternatives that are few and short
module _ (all : List (Alternative UnitPlace)) (few_all : length all ≤ alternative_limit) (short_all : greatest_length all ≤ cycle_limit) where
  large : (most : ℕ) → most < total_size all → excess_of most all ≡ Some too_large
  large most h = rw (le-ltb alternative_limit (length all) few_all, le-ltb cycle_limit (greatest_length all) short_all, lt-ltb most (total_size all) h) refl

  pub within : (most : ℕ) → total_weight (map listed all) ≤ most → excess_of most all ≡ None
  within most h =
      let size : total_size all ≤ most = omega (arith, total_listed all) in
      rw (le-ltb alternative_limit (length all) few_all, le-ltb cycle_limit (greatest_length all) short_all, le-ltb most (total_size all) size) refl

  pub refused : (most : ℕ) (fault : AlternFault) → Refuses most (map listed all) fault → Expands most all (Err fault)
  refused most AlternativesLimit never = absurd never
  refused most CyclesLimit never = absurd never
  refused most SizeLimit over = large most (omega (arith, total_listed all))
  refused most NoMemory free = tt

  pub sound : 0 < length all → All IsPlaced all → AreSound (map listed all)
  sound some placed = record {
    some = simp length-map some;
    few = simp length-map few_all;
    each = λ k d lt.
        let is = all_listed all placed k d lt in
        let cycles : greatest_length (map listed all) ≤ cycle_limit = omega (arith, greatest-listed all) in
        record { placed = is.placed; short = length_within cycle_limit (map listed all) cycles k d lt; ascending = is.ascending };
  }
