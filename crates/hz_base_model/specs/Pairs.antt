-- Units in cycles, and the one order in which they are listed. GCC Internals, 'Specifying processor pipeline description';
-- the order is this profile's, docs/RULES.md.
use Rattle.std.specs.Prelude.{ℕ, ◌+◌, ◌↔◌, Bool, IsTrue, ◌&&◌, ◌==◌, nat_eq, List, [], ◌∷◌, map, if◌then◌else◌}
use Rattle.std.specs.List.{Contains, AllPairs}
use Rattle.std.specs.declared.cmp.Ordering.{Ordering}
use Rattle.std.specs.Ordering.{nat_cmp, on, then_cmp, is_lt}
use Rattle.std.specs.Cmp.Lexicographic.{pointwise, slice_cmp}

-- A unit that is taken in a cycle. `U` is what units are: their numbers in one automaton, or an automaton and a number.
pub record Pair (U : Type 0) : Type 0 where
  pub unit : U
  pub cycle : ℕ

-- the same unit, n cycles later
abbrev pub later : {U : Type 0} → ℕ → Pair U → Pair U
later n p = record { unit = p.unit; cycle = n + p.cycle }

-- pairs, placed n cycles later
abbrev pub placed : {U : Type 0} → ℕ → List (Pair U) → List (Pair U)
placed n pairs = map (later n) pairs

-- the same set of pairs, in whatever order they are listed and however often
abbrev pub SamePairs : {U : Type 0} → List (Pair U) → List (Pair U) → Type 0
SamePairs {U} xs ys = (p : Pair U) → Contains xs p ↔ Contains ys p

-- pairs are ordered by cycle, and in one cycle by unit, in the order of units that is given
abbrev pub pair_cmp : {U : Type 0} → (U → U → Ordering) → Pair U → Pair U → Ordering
pair_cmp unit_cmp = then_cmp (on (λ p. p.cycle) nat_cmp) (on (λ p. p.unit) unit_cmp)

-- whether a pair stands before another
abbrev pub precedes_by : {U : Type 0} → (U → U → Ordering) → Pair U → Pair U → Bool
precedes_by unit_cmp p q = is_lt (pair_cmp unit_cmp p q)

-- each pair precedes all later ones, so that none stands twice: the one way to list a set of pairs
abbrev pub IsAscendingBy : {U : Type 0} → (U → U → Ordering) → List (Pair U) → Type 0
IsAscendingBy unit_cmp pairs = AllPairs (λ p q. IsTrue (precedes_by unit_cmp p q)) pairs

-- a pair joins pairs that ascend, where it is not among them
abbrev pub with_pair_by : {U : Type 0} → (U → U → Ordering) → Pair U → List (Pair U) → List (Pair U)
with_pair_by unit_cmp p [] = p ∷ []
with_pair_by unit_cmp p (q ∷ qs) =
    if precedes_by unit_cmp p q then p ∷ q ∷ qs
    else (if precedes_by unit_cmp q p then q ∷ with_pair_by unit_cmp p qs else q ∷ qs)

-- the same set of pairs, ascending and each once
abbrev pub ascending_by : {U : Type 0} → (U → U → Ordering) → List (Pair U) → List (Pair U)
ascending_by unit_cmp [] = []
ascending_by unit_cmp (p ∷ ps) = with_pair_by unit_cmp p (ascending_by unit_cmp ps)

-- whether two pairs are equal, by whether their units are
abbrev pub same_pair : {U : Type 0} → (U → U → Bool) → Pair U → Pair U → Bool
same_pair same_unit p q = same_unit p.unit q.unit && p.cycle == q.cycle

-- whether two grids are equal, as lists of units of one automaton in cycles
abbrev pub grid_eq : List (Pair ℕ) → List (Pair ℕ) → Bool
grid_eq = pointwise (same_pair nat_eq)

-- grids are ordered as lists: the first pair that is not the same decides, and a front comes before the whole
abbrev pub grid_cmp : List (Pair ℕ) → List (Pair ℕ) → Ordering
grid_cmp = slice_cmp (pair_cmp nat_cmp)
