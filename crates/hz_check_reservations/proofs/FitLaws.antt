-- What is kept of expressions is right where it is right of their parts.
use Rattle.std.proofs.Math.Dec.{eqb}
use Rattle.std.proofs.Common.{not, ◌≡◌, ℕ, zero, suc, ◌+◌, ◌*◌, ◌≤◌, ◌<◌, Bool, true, false, ◌&&◌, ◌||◌, nat_le, List, length, refl, sym, ap, ◌∙◌, arith}
use Rattle.hz_base_model.specs.Limits.{cycle_limit}
use Rattle.hz_altern.proofs.Cutting.{cut_times}
use Rattle.hz_altern.proofs.Lengths.{greatest-append, greatest-followed, greatest-beside, greatest-copies}
use Rattle.hz_description_model.specs.Reservations.AlternativeLists.{greatest_length}
use Rattle.hz_description_model.specs.Reservations.Alternatives.{Alternative, Expression, sequence, one_of, all_of, repeat, Parts, none, more, alternatives_of, any_of}
use Rattle.hz_description_model.specs.Reservations.Automata.{UnitPlace}
use Rattle.hz_description_model.proofs.Reservations.ExpressionLaws.{one_in_sequence, one_together, one_of_one}
use Rattle.hz_description_model.specs.Splits.Rules.{somewhere, somewhere_in, is_mixed, is_uneven, differ_in_length, differ_before_last}
use Rattle.hz_check_reservations.specs.declared.rules.habits.Habits.{Habits}
use Rattle.hz_check_reservations.specs.declared.rules.mark.Mark.{Mark}
use Rattle.hz_check_reservations.specs.declared.rules.mark.Mark.TheVariants.{Comma, Bar, Plus}
use Rattle.hz_check_reservations.specs.Habits.{Fits, FitsExpression, FitsParts, alternated, differ_before, have_two_lengths, is_comma, joined_habits, joined_longest, joined_parts, joined_shortest, repeated_habits}
use Rattle.hz_check_reservations.specs.Lengths.{cut_length, least_length}
use Rattle.hz_check_reservations.specs.Spreads.{are_several, joined_spread, spread_of}
use Rattle.hz_check_reservations.proofs.LengthLaws.{least-append, least-followed, least-beside, least-copies, two_lengths}
use Rattle.hz_check_reservations.proofs.SpreadLaws.{spread_of-append, spread_of-followed, spread_of-beside, spread_of-copies, two_automata}

or_false : (a : Bool) → (a || false) ≡ a
or_false true = refl
or_false false = refl

or_comm : (a b : Bool) → (a || b) ≡ (b || a)
or_comm true true = refl
or_comm true false = refl
or_comm false true = refl
or_comm false false = refl

-- the tests of a part and of those after it, in another order
regrouped : (first before others here : Bool) → ((first || (before || others)) || here) ≡ ((here || before) || (first || others))
regrouped true true true true = refl
regrouped true true true false = refl
regrouped true true false true = refl
regrouped true true false false = refl
regrouped true false true true = refl
regrouped true false true false = refl
regrouped true false false true = refl
regrouped true false false false = refl
regrouped false true true true = refl
regrouped false true true false = refl
regrouped false true false true = refl
regrouped false true false false = refl
regrouped false false true true = refl
regrouped false false true false = refl
regrouped false false false true = refl
regrouped false false false false = refl

within_times : (a n : ℕ) → 1 ≤ n → a ≤ a * n
within_times a zero k = absurd (omega arith)
within_times a (suc n) k = omega arith

-- the same of other alternatives
pub fits_same : (xs ys : List (Alternative UnitPlace)) (m n u v : Bool) (h : Habits) → xs ≡ ys → m ≡ n → u ≡ v → Fits xs m u h → Fits ys n v h
fits_same xs ys m n u v h a b c fits = record {
  spread = fits.spread ∙ ap spread_of a;
  shortest = fits.shortest ∙ ap least_length a;
  longest = fits.longest ∙ ap (λ (zs : List (Alternative UnitPlace)). cut_length (greatest_length zs)) a;
  mixed = fits.mixed ∙ b;
  uneven = λ short. fits.uneven (omega (arith, ap greatest_length a)) ∙ c;
}

-- the lists of two parts with a mark between them
module _ (known : List ℕ → List (Alternative UnitPlace)) (first : Expression) (others : Parts) where
  abbrev here : List (Alternative UnitPlace)
  here = alternatives_of known first

  abbrev beyond : Mark → List (Alternative UnitPlace)
  beyond mark = joined_parts mark known others

  spread_more : (mark : Mark) → 0 < length here → 0 < length (beyond mark) → spread_of (joined_parts mark known (more first others)) ≡ joined_spread (spread_of here) (spread_of (beyond mark))
  spread_more Comma h k = spread_of-followed here (beyond Comma) h k
  spread_more Bar h k = spread_of-append here (beyond Bar)
  spread_more Plus h k = spread_of-beside here (beyond Plus) h k

  shortest_more : (mark : Mark) → least_length (joined_parts mark known (more first others)) ≡ joined_shortest mark (least_length here) (least_length (beyond mark))
  shortest_more Comma = least-followed here (beyond Comma)
  shortest_more Bar = least-append here (beyond Bar)
  shortest_more Plus = least-beside here (beyond Plus)

  longest_more : (mark : Mark) → 0 < length here → 0 < length (beyond mark)
      → cut_length (greatest_length (joined_parts mark known (more first others))) ≡ joined_longest mark (cut_length (greatest_length here)) (cut_length (greatest_length (beyond mark)))
  longest_more Comma h k = omega (arith, greatest-followed here (beyond Comma) h k)
  longest_more Bar h k = omega (arith, greatest-append here (beyond Bar))
  longest_more Plus h k = omega (arith, greatest-beside here (beyond Plus) h k)

  -- each part is at most as long as both
  first_short : (mark : Mark) → 0 < length here → 0 < length (beyond mark) → greatest_length (joined_parts mark known (more first others)) ≤ cycle_limit → greatest_length here ≤ cycle_limit
  first_short Comma h k short = omega (arith, greatest-followed here (beyond Comma) h k)
  first_short Bar h k short = omega (arith, greatest-append here (beyond Bar))
  first_short Plus h k short = omega (arith, greatest-beside here (beyond Plus) h k)

  others_short : (mark : Mark) → 0 < length here → 0 < length (beyond mark) → greatest_length (joined_parts mark known (more first others)) ≤ cycle_limit → greatest_length (beyond mark) ≤ cycle_limit
  others_short Comma h k short = omega (arith, greatest-followed here (beyond Comma) h k)
  others_short Bar h k short = omega (arith, greatest-append here (beyond Bar))
  others_short Plus h k short = omega (arith, greatest-beside here (beyond Plus) h k)

module _ (known : List ℕ → List (Alternative UnitPlace)) (mixed uneven : List ℕ → Bool) where
  -- whether there are two lengths
  lengths_tell : (xs : List (Alternative UnitPlace)) (m u : Bool) (h : Habits) → Fits xs m u h → 0 < length xs → greatest_length xs ≤ cycle_limit → have_two_lengths h ≡ differ_in_length xs
  lengths_tell xs m u h fits some short =
      ap (λ (n : ℕ). not (eqb n h.longest)) fits.shortest
      ∙ (ap (λ (n : ℕ). not (eqb (least_length xs) n)) fits.longest ∙ sym (two_lengths xs some short))

  -- one part before others
  more_uneven : (mark : Mark) (first second : Expression) (rest : Parts) (a b : Bool) (two : Bool)
      → a ≡ somewhere (is_uneven known) uneven first
      → b ≡ (differ_before mark known (more second rest) || somewhere_in (is_uneven known) uneven (more second rest))
      → two ≡ differ_in_length (alternatives_of known first)
      → ((a || b) || (is_comma mark && two)) ≡ (differ_before mark known (more first (more second rest)) || somewhere_in (is_uneven known) uneven (more first (more second rest)))
  more_uneven Comma first second rest a b two e f g =
      ap (λ (x : Bool). (x || b) || two) e
      ∙ (ap (λ (x : Bool). (somewhere (is_uneven known) uneven first || x) || two) f
      ∙ (ap (λ (x : Bool). (somewhere (is_uneven known) uneven first || (differ_before_last known (more second rest) || somewhere_in (is_uneven known) uneven (more second rest))) || x) g
      ∙ regrouped (somewhere (is_uneven known) uneven first) (differ_before_last known (more second rest)) (somewhere_in (is_uneven known) uneven (more second rest)) (differ_in_length (alternatives_of known first))))
  more_uneven Bar first second rest a b two e f g =
      or_false (a || b) ∙ (ap (λ (x : Bool). x || b) e ∙ ap (λ (x : Bool). somewhere (is_uneven known) uneven first || x) f)
  more_uneven Plus first second rest a b two e f g =
      or_false (a || b) ∙ (ap (λ (x : Bool). x || b) e ∙ ap (λ (x : Bool). somewhere (is_uneven known) uneven first || x) f)

  pub fits_more : (mark : Mark) (first second : Expression) (rest : Parts) (a b : Habits) → 0 < length (alternatives_of known first) → 0 < length (joined_parts mark known (more second rest))
      → FitsExpression known mixed uneven first a → FitsParts mark known mixed uneven (more second rest) b → FitsParts mark known mixed uneven (more first (more second rest)) (joined_habits mark a b)
  fits_more mark first second rest a b h k front back =
      let others = more second rest in
      record {
        spread = ap (λ (s : _). joined_spread s b.spread) front.spread ∙ (ap (joined_spread (spread_of (alternatives_of known first))) back.spread ∙ sym (spread_more known first others mark h k));
        shortest = ap (λ (n : ℕ). joined_shortest mark n b.shortest) front.shortest
            ∙ (ap (joined_shortest mark (least_length (alternatives_of known first))) back.shortest ∙ sym (shortest_more known first others mark));
        longest = ap (λ (n : ℕ). joined_longest mark n b.longest) front.longest
            ∙ (ap (joined_longest mark (cut_length (greatest_length (alternatives_of known first)))) back.longest ∙ sym (longest_more known first others mark h k));
        mixed = ap (λ (x : Bool). x || b.mixed) front.mixed ∙ ap (λ (x : Bool). somewhere (is_mixed known) mixed first || x) back.mixed;
        uneven = λ short.
            let short_first = first_short known first others mark h k short in
            let short_others = others_short known first others mark h k short in
            more_uneven mark first second rest a.uneven b.uneven (have_two_lengths a) (front.uneven short_first) (back.uneven short_others)
            (lengths_tell (alternatives_of known first) _ _ a front h short_first);
      }

  -- one part alone
  one_part : (mark : Mark) (e : Expression) → alternatives_of known e ≡ joined_parts mark known (more e none)
  one_part Comma e = sym (one_in_sequence known e)
  one_part Bar e = sym (one_of_one known e)
  one_part Plus e = sym (one_together known e)

  none_before : (mark : Mark) (e : Expression) → differ_before mark known (more e none) ≡ false
  none_before Comma e = refl
  none_before Bar e = refl
  none_before Plus e = refl

  pub fits_one : (mark : Mark) (e : Expression) (h : Habits) → FitsExpression known mixed uneven e h → FitsParts mark known mixed uneven (more e none) h
  fits_one mark e h fits = fits_same (alternatives_of known e) (joined_parts mark known (more e none)) _ _ _ _ h (one_part mark e)
      (sym (or_false (somewhere (is_mixed known) mixed e)))
      (sym (ap (λ (x : Bool). x || (somewhere (is_uneven known) uneven e || false)) (none_before mark e) ∙ or_false (somewhere (is_uneven known) uneven e)))
      fits

  -- compound expressions
  pub fits_sequence : (parts : Parts) (h : Habits) → FitsParts Comma known mixed uneven parts h → FitsExpression known mixed uneven (sequence parts) h
  fits_sequence parts h fits = fits_same _ _ _ _ _ _ h refl refl refl fits

  pub fits_all_of : (parts : Parts) (h : Habits) → FitsParts Plus known mixed uneven parts h → FitsExpression known mixed uneven (all_of parts) h
  fits_all_of parts h fits = fits_same _ _ _ _ _ _ h refl refl refl fits

  pub fits_one_of : (parts : Parts) (h : Habits) → FitsParts Bar known mixed uneven parts h → FitsExpression known mixed uneven (one_of parts) (alternated h)
  fits_one_of parts h fits = record {
    spread = fits.spread;
    shortest = fits.shortest;
    longest = fits.longest;
    mixed = ap (λ (x : Bool). x || are_several h.spread) fits.mixed
        ∙ (or_comm (somewhere_in (is_mixed known) mixed parts) (are_several h.spread)
        ∙ ap (λ (x : Bool). x || somewhere_in (is_mixed known) mixed parts) (ap are_several fits.spread ∙ sym (two_automata (any_of known parts))));
    uneven = fits.uneven;
  }

  pub fits_repeat : (part : Expression) (times : ℕ) (h : Habits) → 1 ≤ times → 0 < length (alternatives_of known part) → FitsExpression known mixed uneven part h → FitsExpression known mixed uneven (repeat part times) (repeated_habits times h)
  fits_repeat part times h k some fits =
      let xs = alternatives_of known part in
      let long = greatest-copies times xs some in
      record {
        spread = fits.spread ∙ sym (spread_of-copies times xs k some);
        shortest = ap (λ (n : ℕ). cut_length (n * times)) fits.shortest ∙ sym (least-copies times xs);
        longest = ap (λ (n : ℕ). cut_length (n * times)) fits.longest ∙ (cut_times (cycle_limit + 1) (greatest_length xs) times k ∙ sym (ap cut_length long));
        mixed = fits.mixed;
        uneven = λ short.
            let low = within_times (greatest_length xs) times k in
            let short_part : greatest_length xs ≤ cycle_limit = omega arith in
            ap (λ (x : Bool). x || (nat_le 2 times && have_two_lengths h)) (fits.uneven short_part)
            ∙ (ap (λ (x : Bool). somewhere (is_uneven known) uneven part || (nat_le 2 times && x)) (lengths_tell xs _ _ h fits some short_part)
            ∙ or_comm (somewhere (is_uneven known) uneven part) (nat_le 2 times && differ_in_length xs));
      }
