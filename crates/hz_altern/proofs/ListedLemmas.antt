-- Listed alternatives, and their copies one after another.
use Rattle.std.proofs.Common.{◌/◌, ◌%◌, ◌≡◌, ℕ, zero, suc, ◌+◌, ◌-◌, ◌<◌, ◌≤◌, List, length, All, sym, ap, ◌∙◌, subst, arith, ⊎_elim}
use Rattle.std.proofs.lemmas.Bool.{cases_lt}
use Rattle.std.proofs.Math.Nat.{mul-le-mul_left}
use Rattle.hz_base_model.specs.Limits.{cycle_limit}
use Rattle.hz_altern.specs.declared.fault.AlternFault.{AlternFault}
use Rattle.hz_altern.specs.declared.listing.joining.Joining.TheVariants.{InSequence}
use Rattle.hz_altern.specs.Answers.{total_weight, Refuses}
use Rattle.hz_altern.proofs.Weights.{refuses_larger}
use Rattle.hz_altern.specs.Joinings.{IsListed, joined_by}
use Rattle.hz_altern.proofs.Lengths.{greatest-copies}
use Rattle.hz_altern.proofs.ChoiceWeights.{firsts_weigh}
use Rattle.hz_base_model.specs.Pairs.{Pair}
use Rattle.hz_description_model.specs.Reservations.Alternatives.{Alternative, each_choice, followed_by, copies}
use Rattle.hz_description_model.specs.Reservations.AlternativeLists.{IsPlaced, greatest_length}
use Rattle.hz_description_model.specs.Reservations.Automata.{UnitPlace, listed}
use Rattle.hz_description_model.proofs.Reservations.AscendingLaws.{IsAscending-ascending, ascending_itself}
use Rattle.hz_description_model.proofs.Reservations.ExpressionLaws.{one_followed, some_copies}
use Rattle.hz_description_model.proofs.Reservations.ListedLaws.{All-each_choice, copies-add, listed_followed}
use Rattle.hz_description_model.proofs.Reservations.PlacedLaws.{followed_placed, listed_placed}

abbrev whole : List (Pair UnitPlace) → ℕ → Alternative UnitPlace
whole pairs cycles = record { pairs = pairs; cycles = cycles }

pub listed_itself : (a : Alternative UnitPlace) → IsListed a → listed a ≡ a
listed_itself a is = ap (λ ps. whole ps a.cycles) (ascending_itself a.pairs is.ascending)

pub IsListed-listed : (a : Alternative UnitPlace) → IsPlaced a → IsListed (listed a)
IsListed-listed a is = record { placed = listed_placed a is; ascending = IsAscending-ascending a.pairs }

pub IsListed-followed : (a b : Alternative UnitPlace) → IsListed a → IsListed b → IsListed (followed_by a b)
IsListed-followed a b is_a is_b =
    let same : listed (followed_by a b) ≡ followed_by a b = listed_followed a b is_a.placed.within ∙ (ap (λ x. followed_by x (listed b)) (listed_itself a is_a) ∙ ap (followed_by a) (listed_itself b is_b)) in
    subst IsListed same (IsListed-listed (followed_by a b) (followed_placed a b is_a.placed is_b.placed))

-- ---- copies

pub listed_copies : (n : ℕ) (xs : List (Alternative UnitPlace)) → 1 ≤ n → All IsListed xs → All IsListed (copies n xs)
listed_copies zero xs h each = absurd (omega arith)
listed_copies (suc zero) xs h each = subst (All IsListed) (sym (one_followed xs)) each
listed_copies (suc (suc n)) xs h each = All-each_choice IsListed followed_by IsListed-followed xs (copies (suc n) xs) each (listed_copies (suc n) xs (omega arith) each)

pub copies_single : (n : ℕ) (xs : List (Alternative UnitPlace)) → n ≡ 1 → copies n xs ≡ xs
copies_single n xs e = ap (λ m. copies m xs) e ∙ one_followed xs

pub copies_one : (xs : List (Alternative UnitPlace)) → copies 1 xs ≡ xs
copies_one xs = one_followed xs

-- fewer copies are no larger and no longer
module _ (xs : List (Alternative UnitPlace)) (some : 0 < length xs) (each : All IsListed xs) where
  module _ (h n : ℕ) (low : 1 ≤ h) (fewer : h < n) where
    rest_of : copies n xs ≡ each_choice followed_by (copies h xs) (copies (n - h) xs)
    rest_of = ap (λ m. copies m xs) (parts h n fewer) ∙ copies-add h (n - h) xs
      where
        parts : (a b : ℕ) → a < b → b ≡ a + (b - a)
        parts a b lt = omega arith

    weigh_less : total_weight (copies h xs) ≤ total_weight (copies n xs)
    weigh_less =
        let first = firsts_weigh InSequence (copies h xs) (copies (n - h) xs) (listed_copies h xs low each) (listed_copies (n - h) xs (omega arith) each) (some_copies (λ _. xs) (n - h) xs some) in
        subst (λ ws. total_weight (copies h xs) ≤ total_weight ws) (sym rest_of) first

  pub copies_weigh : (h n : ℕ) → 1 ≤ h → h ≤ n → total_weight (copies h xs) ≤ total_weight (copies n xs)
  copies_weigh h n low within =
      ⊎_elim (weigh_less h n low)
      (λ (all : n ≤ h). let same : h ≡ n = omega arith in subst (λ (m : ℕ). total_weight (copies h xs) ≤ total_weight (copies m xs)) same (omega arith))
      (cases_lt h n)

  pub copies_short : (h n most : ℕ) → h ≤ n → greatest_length (copies n xs) ≤ most → greatest_length (copies h xs) ≤ most
  copies_short h n most within short =
      let more = mul-le-mul_left {m = h} {n = n} (greatest_length xs) within in
      omega (arith, greatest-copies h xs some, greatest-copies n xs some)

  -- what is refused of fewer copies is refused of all
  pub copies_refused : (most h n : ℕ) (fault : AlternFault) → 1 ≤ h → h ≤ n → Refuses most (copies h xs) fault → Refuses most (copies n xs) fault
  copies_refused most h n fault low within = refuses_larger most (copies h xs) (copies n xs) (copies_weigh h n low within) fault

  -- as many copies again
  twice : (h : ℕ) → each_choice (joined_by InSequence) (copies h xs) (copies h xs) ≡ copies (h + h) xs
  twice h = sym (copies-add h h xs)

  -- and one more copy
  once_more : (m : ℕ) → each_choice (joined_by InSequence) (copies m xs) xs ≡ copies (m + 1) xs
  once_more m = ap (each_choice followed_by (copies m xs)) (sym (one_followed xs)) ∙ sym (copies-add m 1 xs)

-- Half of the copies, twice that, and for an odd number one more.
pub record Halves (xs : List (Alternative UnitPlace)) (n : ℕ) : Type 0 where
  pub listed_half : All IsListed (copies (n / 2) xs)
  pub short_half : greatest_length (copies (n / 2) xs) ≤ cycle_limit
  pub refused_half : (most : ℕ) (fault : AlternFault) → Refuses most (copies (n / 2) xs) fault → Refuses most (copies n xs) fault
  pub listed_even : All IsListed (each_choice (joined_by InSequence) (copies (n / 2) xs) (copies (n / 2) xs))
  pub short_even : greatest_length (each_choice (joined_by InSequence) (copies (n / 2) xs) (copies (n / 2) xs)) ≤ cycle_limit
  pub refused_even : (most : ℕ) (fault : AlternFault) → Refuses most (each_choice (joined_by InSequence) (copies (n / 2) xs) (copies (n / 2) xs)) fault → Refuses most (copies n xs) fault
  pub all_even : n % 2 ≡ 0 → each_choice (joined_by InSequence) (copies (n / 2) xs) (copies (n / 2) xs) ≡ copies n xs
  pub all_odd : (n % 2 ≡ 0 → ⊥) → each_choice (joined_by InSequence) (each_choice (joined_by InSequence) (copies (n / 2) xs) (copies (n / 2) xs)) xs ≡ copies n xs

pub copies_halved : (xs : List (Alternative UnitPlace)) (n : ℕ) → 0 < length xs → All IsListed xs → 1 ≤ n → (n ≡ 1 → ⊥) → greatest_length (copies n xs) ≤ cycle_limit → Halves xs n
copies_halved xs n some each low several short =
    let h = n / 2 in
    let even = twice xs some each h in
    record {
      listed_half = listed_copies h xs (omega arith) each;
      short_half = copies_short xs some each h n cycle_limit (omega arith) short;
      refused_half = λ most fault. copies_refused xs some each most h n fault (omega arith) (omega arith);
      listed_even = subst (All IsListed) (sym even) (listed_copies (h + h) xs (omega arith) each);
      short_even = subst (λ ws. greatest_length ws ≤ cycle_limit) (sym even) (copies_short xs some each (h + h) n cycle_limit (omega arith) short);
      refused_even = λ most fault no. copies_refused xs some each most (h + h) n fault (omega arith) (omega arith) (subst (λ ws. Refuses most ws fault) even no);
      all_even = λ e. let all : h + h ≡ n = omega arith in even ∙ ap (λ m. copies m xs) all;
      all_odd = λ e.
          let all : (h + h) + 1 ≡ n = omega arith in
          ap (λ ws. each_choice (joined_by InSequence) ws xs) even ∙ (once_more xs some each (h + h) ∙ ap (λ m. copies m xs) all);
    }
