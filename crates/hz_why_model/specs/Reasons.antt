-- What forbids an alternative. GCC Internals, 'Specifying processor pipeline description', on set statements; which of several
-- things is named is this profile's, docs/RULES.md, 'Reasons'.
use Rattle.std.specs.Prelude.{◌≡◌, ◌==◌, ◌&&◌, ℕ, suc, Bool, true, false, not, List, [], ◌∷◌, ◌++◌, Option, Some, None, unwrap_or, slice_get}
use Rattle.std.specs.List.{Contains, find, list_all}
use Rattle.std.specs.Option.{option_map, option_and_then}
use Rattle.std.specs.declared.cmp.Ordering.{Ordering}
use Rattle.hz_base_model.specs.Pairs.{Pair, placed, ascending_by, same_pair}
use Rattle.hz_description_model.specs.Reservations.Alternatives.{Alternative}
use Rattle.hz_description_model.specs.Reservations.Automata.{UnitPlace}
use Rattle.hz_description_model.specs.Reservations.Sets.{SetKind, exclusion, presence, final_presence, absence, final_absence, Statement, Holds, HoldsPattern}
use Rattle.hz_pipeline_model.specs.Accepting.Plays.{has, holds, asks}

-- Something that forbids an alternative: a pair of it that stands reserved; or the set statement of this number, which is broken in
-- a cycle by a unit of its first string and a pattern, an empty one where a pattern is missed.
pub data Reason (U : Type 0) : Type 0 where
  taken : (pair : Pair U) → Reason U
  broken : (statement cycle : ℕ) → (unit : U) → (pattern : List U) → Reason U

-- ---- what it means that something forbids

-- the unit is one of these, and is held
abbrev pub IsHeldOf : {U : Type 0} → List U → (U → Type 0) → U → Type 0
IsHeldOf units held unit = Contains units unit × held unit

-- the pattern is one of these, and is wholly held
abbrev pub IsWholeOf : {U : Type 0} → List (List U) → (U → Type 0) → List U → Type 0
IsWholeOf {U} patterns held pattern = Contains patterns pattern × ((u : U) → Contains pattern u → held u)

-- How a unit and a pattern break a statement of this kind in a cycle, by the units that stood there, those that are added, and all.
abbrev pub BreaksBy : {U : Type 0} → SetKind → List U → List (List U) → (source added result : U → Type 0) → U → List U → Type 0
BreaksBy exclusion units patterns source added result unit pattern = IsHeldOf units result unit × IsWholeOf patterns result pattern
BreaksBy presence units patterns source added result unit pattern = IsHeldOf units added unit × (HoldsPattern patterns source → ⊥)
BreaksBy final_presence units patterns source added result unit pattern = IsHeldOf units added unit × (HoldsPattern patterns result → ⊥)
BreaksBy absence units patterns source added result unit pattern = IsHeldOf units added unit × IsWholeOf patterns source pattern
BreaksBy final_absence units patterns source added result unit pattern = IsHeldOf units added unit × IsWholeOf patterns result pattern

-- The reason forbids that these pairs are added to what stands reserved.
abbrev pub Forbids : {U : Type 0} → List (Statement U) → (source added : List (Pair U)) → Reason U → Type 0
Forbids statements source added (taken p) = Contains source p × Contains added p
Forbids {U} statements source added (broken n cycle unit pattern) =
    (s : Statement U) × (slice_get statements n ≡ Some s) × BreaksBy s.kind s.units s.patterns (Holds source cycle) (Holds added cycle) (Holds (source ++ added) cycle) unit pattern

-- ---- which is named

-- the patterns of a statement, none where there is no such statement
abbrev pub patterns_of : {U : Type 0} → Option (Statement U) → List (List U)
patterns_of None = []
patterns_of (Some s) = s.patterns

-- the first of two answers that there is
abbrev pub or_else : {A : Type 0} → Option A → Option A → Option A
or_else (Some a) other = Some a
or_else None other = other

-- the first pattern that is wholly held
abbrev pub first_whole : {U : Type 0} → List (List U) → (U → Bool) → List U
first_whole patterns held = unwrap_or (find (λ pattern. list_all held pattern) patterns) []

-- the units by which a statement of this kind is broken: of an exclusion all, of another kind those that are added
abbrev pub breaking : {U : Type 0} → SetKind → (added result : U → Bool) → U → Bool
breaking exclusion added result = result
breaking presence added result = added
breaking final_presence added result = added
breaking absence added result = added
breaking final_absence added result = added

-- the pattern by which it is broken, an empty one where a pattern is missed
abbrev pub breaking_pattern : {U : Type 0} → SetKind → List (List U) → (source result : U → Bool) → List U
breaking_pattern exclusion patterns source result = first_whole patterns result
breaking_pattern presence patterns source result = []
breaking_pattern final_presence patterns source result = []
breaking_pattern absence patterns source result = first_whole patterns source
breaking_pattern final_absence patterns source result = first_whole patterns result

module _ {U : Type 0} (same : U → U → Bool) (source added : List (Pair U)) where
  -- the statement does not allow the cycle
  abbrev pub is_broken_in : Statement U → (cycle : ℕ) → Bool
  is_broken_in s cycle = not (asks s.kind s.units s.patterns (holds same source cycle) (holds same added cycle) (holds same (source ++ added) cycle))

  -- how the statement of this number is broken in a cycle: the first unit of its string, and the first pattern
  abbrev pub broken_in : ℕ → Statement U → (cycle : ℕ) → Option (Reason U)
  broken_in n s cycle = option_map
      (λ u. broken n cycle u (breaking_pattern s.kind s.patterns (holds same source cycle) (holds same (source ++ added) cycle)))
      (find (breaking s.kind (holds same added cycle) (holds same (source ++ added) cycle)) s.units)

  -- the same in the first cycle of an added pair in which it is broken
  abbrev pub broken_first : ℕ → Statement U → Option (Reason U)
  broken_first n s = option_and_then (λ p. broken_in n s p.cycle) (find (λ p. is_broken_in s p.cycle) added)

  -- how the first statement is broken that is, where the first of these has this number
  abbrev pub first_broken : ℕ → List (Statement U) → Option (Reason U)
  first_broken n [] = None
  first_broken n (s ∷ others) = or_else (broken_first n s) (first_broken (suc n) others)

  -- the first pair that stands reserved, or else how the first statement is broken that is; none where nothing forbids the pairs
  abbrev pub first_reason : List (Statement U) → Option (Reason U)
  first_reason statements = or_else (option_map taken (find (has same source) added)) (first_broken 0 statements)

-- What forbids an alternative that is issued in a cycle: pairs go by cycle and then by unit, and before all statements; these are in
-- the order of the file.
abbrev pub reason_of : {U : Type 0} → (U → U → Bool) → (U → U → Ordering) → List (Statement U) → (source : List (Pair U)) → (now : ℕ) → Alternative U → Option (Reason U)
reason_of same unit_cmp statements source now a = first_reason same source (placed now (ascending_by unit_cmp a.pairs)) statements

module _ {U : Type 0} (same : U → U → Bool) where
  -- whether two patterns are the same
  abbrev pub same_pattern : (xs ys : List U) → Bool
  same_pattern [] [] = true
  same_pattern [] (y ∷ ys) = false
  same_pattern (x ∷ xs) [] = false
  same_pattern (x ∷ xs) (y ∷ ys) = same x y && same_pattern xs ys

  -- whether two reasons are the same
  abbrev pub same_reason : Reason U → Reason U → Bool
  same_reason (taken p) (taken q) = same_pair same p q
  same_reason (taken p) (broken n cycle unit pattern) = false
  same_reason (broken n cycle unit pattern) (taken q) = false
  same_reason (broken n cycle unit pattern) (broken n' cycle' unit' pattern') = n == n' && (cycle == cycle' && (same unit unit' && same_pattern pattern pattern'))

  -- whether two alternatives are forbidden for the same reason; for none both, if they are not forbidden
  abbrev pub are_alike : (x y : Option (Reason U)) → Bool
  are_alike None None = true
  are_alike None (Some r) = false
  are_alike (Some r) None = false
  are_alike (Some r) (Some s) = same_reason r s

-- whether two units of a description are the same
abbrev pub same_place : UnitPlace → UnitPlace → Bool
same_place u v = u.automaton == v.automaton && u.unit == v.unit
