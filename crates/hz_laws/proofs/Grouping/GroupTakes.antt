-- An issue takes the same pairs in two pipelines of the same groups.
use Rattle.std.proofs.Common.{◌≡◌, ℕ, ◌<◌, ◌≤◌, List, [], length, Option, Some, None, Contains, refl, sym, ◌∙◌, subst, arith, ⊎_elim, slice_get}
use Rattle.std.specs.Prelude.{min, slice_index_or}
use Rattle.std.proofs.Math.Nat.{min-le_left, min-le_right, min-eq_left, min-eq_right}
use Rattle.std.proofs.lemmas.Bool.{cases_lt}
use Rattle.std.proofs.lemmas.Option.{slice_get_within}
use Rattle.hz_base_model.specs.Pairs.{Pair, SamePairs}
use Rattle.hz_description_model.specs.Reservations.Sets.{Statement, Fits}
use Rattle.hz_description_model.proofs.Reservations.SamePairsLaws.{same_back, fits_same}
use Rattle.hz_pipeline_model.specs.Accepting.Replay.{first_fit, Class, Pipeline, FitsAt, MayTake, alternatives_at, of_class, chosen}
use Rattle.hz_laws.specs.Grouping.{GroupLists, of_group, AreNumbers, IsAt, IsFirstAt, IsProduct, AreOfGroups}
use Rattle.hz_laws.proofs.Grouping.GroupFits.{same_at, fits_by_groups}

-- a class that has an alternative is one of the pipeline's
class_within : {U : Type 0} (m : Pipeline U) (k i : ℕ) → i < length (alternatives_at m k) → k < length m.classes
class_within {U} m k i low = by_class (slice_get m.classes k) refl
  where
    by_class : (c : Option (Class U)) → slice_get m.classes k ≡ c → k < length m.classes
    by_class None e = absurd (let none = subst (λ (o : Option (Class U)). i < length (of_class o)) e low in omega (arith, none))
    by_class (Some c) e = slice_get_within m.classes k c e

-- in the other direction
pub groups_back : {U : Type 0} (group : U → ℕ) (lists : ℕ → GroupLists U) (m o : Pipeline U) → AreOfGroups group lists m o → AreOfGroups group lists o m
groups_back group lists m o same = record {
  statements = sym same.statements;
  treatment = sym same.treatment;
  classes = sym same.classes;
  tied = λ s is. same.tied s (subst (λ (ss : List (Statement _)). Contains ss s) (sym same.statements) is);
  before = same.after;
  after = same.before;
}

module _ {U : Type 0} (group : U → ℕ) (lists : ℕ → GroupLists U) (m o : Pipeline U) (same : AreOfGroups group lists m o) (source others : List (Pair U)) (now : ℕ) (there : SamePairs source others) (k : ℕ) where
  -- what fits beside the one source in the one pipeline fits beside the other in the other
  fits_there : (xs ys : List (Pair U)) → SamePairs xs ys → Fits m.statements source xs now → Fits o.statements others ys now
  fits_there xs ys alike h = subst (λ (ss : List (Statement U)). Fits ss others ys now) same.statements (fits_same m.statements source others xs ys now there alike h)

  fits_here : (ys : List (Pair U)) → Fits o.statements others ys now → Fits m.statements source ys now
  fits_here ys h = fits_same m.statements others source ys ys now (same_back source others there) (λ p. (λ x. x, λ x. x)) (subst (λ (ss : List (Statement U)). Fits ss others ys now) (sym same.statements) h)

  module _ (i : ℕ) (take : MayTake m (record { reserved = source; now = now }) k i) (one : IsProduct group (lists k) m k) (two : IsProduct group (lists k) o k) where
    abbrev numbers : ℕ → ℕ
    numbers = (one.parts i take.fits.0).0

    are_numbers : AreNumbers (lists k) numbers
    are_numbers = (one.parts i take.fits.0).1

    at : IsAt group (lists k) numbers (chosen m k i)
    at = (one.parts i take.fits.0).2

    -- the alternative of the other pipeline
    abbrev other : ℕ
    other = (two.whole numbers are_numbers).0

    is_other : IsFirstAt group (lists k) o k numbers other
    is_other = (two.whole numbers are_numbers).1

    alike : SamePairs (chosen m k i) (chosen o k other)
    alike = same_at group (lists k) numbers (chosen m k i) (chosen o k other) at is_other.at

    -- none before it fits
    module _ (first : o.treatment ≡ first_fit) (j : ℕ) (fit : FitsAt o (record { reserved = others; now = now }) k j) where
      abbrev later : ℕ → ℕ
      later = (two.parts j fit.0).0

      are_later : AreNumbers (lists k) later
      are_later = (two.parts j fit.0).1

      at_later : IsAt group (lists k) later (chosen o k j)
      at_later = (two.parts j fit.0).2

      -- of each group what comes first of both
      abbrev least : ℕ → ℕ
      least a = min (numbers a) (later a)

      are_least : AreNumbers (lists k) least
      are_least a = let low = are_numbers a in let below = min-le_left (numbers a) (later a) in omega (arith, low, below)

      abbrev met : ℕ
      met = (one.whole least are_least).0

      is_met : IsFirstAt group (lists k) m k least met
      is_met = (one.whole least are_least).1

      -- in each group it is one of both, so it fits
      met_in : (a : ℕ) → (xs : List (Pair U)) × Fits m.statements source xs now × SamePairs (of_group group a (chosen m k met)) (of_group group a xs)
      met_in a = ⊎_elim
          (λ (less : later a < numbers a).
          let e : least a ≡ later a = min-eq_right (omega (arith, less)) in
          (chosen o k j, fits_here (chosen o k j) fit.1, by_number (later a) e (chosen o k j) (at_later a)))
          (λ (high : numbers a ≤ later a). (chosen m k i, take.fits.1, by_number (numbers a) (min-eq_left high) (chosen m k i) (at a)))
          (cases_lt (later a) (numbers a))
        where
          by_number : (n : ℕ) → least a ≡ n → (xs : List (Pair U)) → SamePairs (of_group group a xs) (slice_index_or (lists k a) n []) → SamePairs (of_group group a (chosen m k met)) (of_group group a xs)
          by_number n e xs h p =
              let is = subst (λ (n : ℕ). SamePairs (of_group group a (chosen m k met)) (slice_index_or (lists k a) n [])) e (is_met.at a) in
              (λ x. (h p).1 ((is p).0 x), λ y. (is p).1 ((h p).0 y))

      met_fits : FitsAt m (record { reserved = source; now = now }) k met
      met_fits = (is_met.within, fits_by_groups group m.statements same.tied source now (chosen m k met) met_in)

      first_here : m.treatment ≡ first_fit
      first_here = same.treatment ∙ first

      met_is : met ≡ i
      met_is =
          let below = is_met.first first_here i numbers take.fits.0 are_numbers at (λ a. min-le_left (numbers a) (later a)) in
          ⊎_elim (λ (less : met < i). absurd (take.first first_here met less met_fits)) (λ (high : i ≤ met). omega (arith, below, high)) (cases_lt met i)

      -- so the alternatives of the least numbers are those of the first
      least_is : (xs : List (Pair U)) → IsAt group (lists k) least xs → IsAt group (lists k) numbers xs
      least_is xs h a p =
          let is = subst (λ (n : ℕ). IsAt group (lists k) least (chosen m k n)) met_is is_met.at in
          (λ x. (at a p).0 ((is a p).1 ((h a p).0 x)), λ y. (h a p).1 ((is a p).0 ((at a p).1 y)))

      not_before : other ≤ j
      not_before =
          let found = two.whole least are_least in
          let low = found.1.first first j later fit.0 are_later at_later (λ a. min-le_right (numbers a) (later a)) in
          let high = is_other.first first found.0 numbers found.1.within are_numbers (least_is (chosen o k found.0) found.1.at) (λ a. let n = numbers a in omega arith) in
          omega (arith, low, high)

    taken : (other' : ℕ) × MayTake o (record { reserved = others; now = now }) k other' × SamePairs (chosen m k i) (chosen o k other')
    taken = (
      other,
      record {
        fits = (is_other.within, fits_there (chosen m k i) (chosen o k other) alike take.fits.1);
        first = λ first j early fit. let low = not_before first j fit in absurd (omega (arith, low, early));
      },
      alike,
    )

  pub take_there : (i : ℕ) → MayTake m (record { reserved = source; now = now }) k i → (other : ℕ) × MayTake o (record { reserved = others; now = now }) k other × SamePairs (chosen m k i) (chosen o k other)
  take_there i take =
      let low = class_within m k i take.fits.0 in
      let classes = same.classes in
      taken i take (same.before k low) (same.after k (omega (arith, low, classes)))
