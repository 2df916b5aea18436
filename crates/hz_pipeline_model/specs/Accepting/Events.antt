-- Events of a trace: issues, cycle advances and asks. GCC Internals, 'Specifying processor pipeline description'.
use Rattle.std.specs.Prelude.{ℕ, zero, suc, ◌+◌, ◌<◌, List, [], ◌∷◌}

-- An issue of a class, by its number; so many cycle advances; an ask of a query unit, by its automaton and its place among
-- the query units there.
pub data Event : Type 0 where
  issue : (class : ℕ) → Event
  advance : (cycles : ℕ) → Event
  ask : (automaton query : ℕ) → Event

-- how many issues there are
abbrev pub issues_of : List Event → ℕ
issues_of [] = zero
issues_of (issue k ∷ t) = suc (issues_of t)
issues_of (advance n ∷ t) = issues_of t
issues_of (ask a u ∷ t) = issues_of t

-- how many cycles are advanced
abbrev pub cycles_of : List Event → ℕ
cycles_of [] = 0
cycles_of (issue k ∷ t) = cycles_of t
cycles_of (advance n ∷ t) = n + cycles_of t
cycles_of (ask a u ∷ t) = cycles_of t

-- the class of an issue is one of so many
abbrev pub IsOfClass : ℕ → Event → Type 0
IsOfClass count (issue k) = k < count
IsOfClass count (advance n) = Unit {0}
IsOfClass count (ask a u) = Unit {0}
