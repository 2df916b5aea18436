-- Units of several automata: the one way to list an alternative, and what a class may take in one automaton. GCC
-- Internals, 'Specifying processor pipeline description', on `define_automaton`; the lists are this profile's, docs/RULES.md.
use Rattle.std.specs.Prelude.{ℕ, ◌+◌, Bool, ◌==◌, not, List, [], ◌∷◌, map, filter, length, sum_by}
use Rattle.std.specs.declared.cmp.Ordering.{Ordering}
use Rattle.std.specs.Ordering.{nat_cmp, on, then_cmp}
use Rattle.hz_base_model.specs.Pairs.{Pair, ascending_by, grid_eq}
use Rattle.hz_description_model.specs.Reservations.Alternatives.{Alternative}

-- a unit by the number of its automaton and its number there
pub record UnitPlace : Type 0 where
  pub automaton : ℕ
  pub unit : ℕ

-- units are ordered by automaton, and in one automaton by number
abbrev pub place_cmp : UnitPlace → UnitPlace → Ordering
place_cmp = then_cmp (on (λ u. u.automaton) nat_cmp) (on (λ u. u.unit) nat_cmp)

-- the same set of pairs, ascending and each once
abbrev pub ascending : List (Pair UnitPlace) → List (Pair UnitPlace)
ascending = ascending_by place_cmp

-- the alternative with its pairs ascending and each once
abbrev pub listed : Alternative UnitPlace → Alternative UnitPlace
listed a = record { pairs = ascending a.pairs; cycles = a.cycles }

-- what an alternative counts: its cycles and its pairs, each pair once
abbrev pub size_of : Alternative UnitPlace → ℕ
size_of a = a.cycles + length (ascending a.pairs)

-- what alternatives count together
abbrev pub total_size : List (Alternative UnitPlace) → ℕ
total_size alternatives = sum_by size_of alternatives

-- whether the pair's unit is of the automaton
abbrev pub is_of : ℕ → Pair UnitPlace → Bool
is_of automaton p = p.unit.automaton == automaton

-- the pair by its unit's number alone
abbrev pub inside : Pair UnitPlace → Pair ℕ
inside p = record { unit = p.unit.unit; cycle = p.cycle }

-- the pairs of the automaton's units, ascending and each once
abbrev pub cut : ℕ → List (Pair UnitPlace) → List (Pair ℕ)
cut automaton pairs = map inside (filter (is_of automaton) (ascending pairs))

-- each item once, at the place where it stands first
abbrev pub without_repeats : {A : Type 0} → (A → A → Bool) → List A → List A
without_repeats same [] = []
without_repeats same (x ∷ xs) = x ∷ filter (λ y. not (same x y)) (without_repeats same xs)

-- The list of a class in an automaton: its alternatives cut down to the automaton's units, each later equal one dropped.
abbrev pub list_in : ℕ → List (Alternative UnitPlace) → List (List (Pair ℕ))
list_in automaton alternatives = without_repeats grid_eq (map (λ a. cut automaton a.pairs) alternatives)
