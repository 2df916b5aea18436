-- What is kept of expressions, and when it is right.
use Rattle.std.specs.Prelude.{◌≡◌, ℕ, ◌+◌, ◌*◌, ◌≤◌, min, max, Bool, true, false, ◌&&◌, ◌||◌, ◌==◌, not, nat_le, List}
use Rattle.hz_base_model.specs.Limits.{cycle_limit}
use Rattle.hz_description_model.specs.Reservations.AlternativeLists.{greatest_length}
use Rattle.hz_description_model.specs.Reservations.Alternatives.{Alternative, Expression, Parts, alternatives_of, in_sequence, any_of, together}
use Rattle.hz_description_model.specs.Reservations.Automata.{UnitPlace}
use Rattle.hz_description_model.specs.Splits.Rules.{somewhere, somewhere_in, is_mixed, is_uneven, differ_before_last}
use Rattle.hz_check_reservations.specs.declared.rules.habits.Habits.{Habits}
use Rattle.hz_check_reservations.specs.declared.rules.mark.Mark.{Mark}
use Rattle.hz_check_reservations.specs.declared.rules.mark.Mark.TheVariants.{Comma, Bar, Plus}
use Rattle.hz_check_reservations.specs.declared.rules.spread.Spread.TheVariants.{Free, Within}
use Rattle.hz_check_reservations.specs.Lengths.{cut_length, least_length}
use Rattle.hz_check_reservations.specs.Spreads.{are_several, joined_spread, spread_of}

-- What the calls make of what is kept.

abbrev pub habits_of_unit : ℕ → Habits
habits_of_unit automaton = record { spread = Within automaton; shortest = 1; longest = 1; mixed = false; uneven = false }

abbrev pub idle_habits : Habits
idle_habits = record { spread = Free; shortest = 1; longest = 1; mixed = false; uneven = false }

-- the shortest and the longest run for different lengths
abbrev pub have_two_lengths : Habits → Bool
have_two_lengths h = not (h.shortest == h.longest)

-- the shortest of two parts with this mark between them, by the shortest of each
abbrev pub joined_shortest : Mark → ℕ → ℕ → ℕ
joined_shortest Comma a b = cut_length (a + b)
joined_shortest Bar a b = min a b
joined_shortest Plus a b = max a b

-- the longest of them
abbrev pub joined_longest : Mark → ℕ → ℕ → ℕ
joined_longest Comma a b = cut_length (a + b)
joined_longest _ a b = max a b

-- whether the mark asks for one length of what stands before it
abbrev pub is_comma : Mark → Bool
is_comma Comma = true
is_comma _ = false

abbrev pub joined_habits : Mark → Habits → Habits → Habits
joined_habits mark a b = record {
  spread = joined_spread a.spread b.spread;
  shortest = joined_shortest mark a.shortest b.shortest;
  longest = joined_longest mark a.longest b.longest;
  mixed = a.mixed || b.mixed;
  uneven = a.uneven || b.uneven || (is_comma mark && have_two_lengths a);
}

abbrev pub repeated_habits : ℕ → Habits → Habits
repeated_habits times h = record h {
  shortest = cut_length (h.shortest * times);
  longest = cut_length (h.longest * times);
  uneven = h.uneven || (nat_le 2 times && have_two_lengths h);
}

abbrev pub alternated : Habits → Habits
alternated h = record h { mixed = h.mixed || are_several h.spread }

-- What is kept is right of these alternatives, in whose expression the two rules are broken somewhere or not. The second is
-- asked within the limit of cycles alone.
pub record Fits (all : List (Alternative UnitPlace)) (is_mixed_inside is_uneven_inside : Bool) (h : Habits) : Type 0 where
  pub spread : h.spread ≡ spread_of all
  pub shortest : h.shortest ≡ least_length all
  pub longest : h.longest ≡ cut_length (greatest_length all)
  pub mixed : h.mixed ≡ is_mixed_inside
  pub uneven : greatest_length all ≤ cycle_limit → h.uneven ≡ is_uneven_inside

-- it is right of an expression, where names have these alternatives, and the rules are broken inside some of them
abbrev pub FitsExpression : (known : List ℕ → List (Alternative UnitPlace)) → (mixed uneven : List ℕ → Bool) → Expression → Habits → Type 0
FitsExpression known mixed uneven e h = Fits (alternatives_of known e) (somewhere (is_mixed known) mixed e) (somewhere (is_uneven known) uneven e) h

-- the alternatives of parts with this mark between them
abbrev pub joined_parts : Mark → (List ℕ → List (Alternative UnitPlace)) → Parts → List (Alternative UnitPlace)
joined_parts Comma known parts = in_sequence known parts
joined_parts Bar known parts = any_of known parts
joined_parts Plus known parts = together known parts

-- some part before a comma has two lengths
abbrev pub differ_before : Mark → (List ℕ → List (Alternative UnitPlace)) → Parts → Bool
differ_before mark known parts = is_comma mark && differ_before_last known parts

-- it is right of parts with this mark between them, but for the alternation that they may be themselves
abbrev pub FitsParts : Mark → (known : List ℕ → List (Alternative UnitPlace)) → (mixed uneven : List ℕ → Bool) → Parts → Habits → Type 0
FitsParts mark known mixed uneven parts h =
    Fits (joined_parts mark known parts) (somewhere_in (is_mixed known) mixed parts) (differ_before mark known parts || somewhere_in (is_uneven known) uneven parts) h
