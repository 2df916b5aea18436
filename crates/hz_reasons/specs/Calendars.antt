-- What the code holds of a pipeline and of what stands reserved, and what that means.
use Rattle.std.specs.Prelude.{◌≡◌, ◌↔◌, ℕ, ◌<◌, ◌≤◌, List, Contains, [], length, Option, Some, None, slice_index_or, slice_get}
use Rattle.hz_base_model.specs.Pairs.{Pair, later}
use Rattle.hz_description_model.specs.Reservations.Sets.{Statement, Fits}
use Rattle.hz_pipeline_model.specs.Accepting.Fitting.{IsUnbroken}
use Rattle.hz_grid.specs.Grids.{Meets, IsUnion}
use Rattle.hz_reasons.specs.declared.plan.Choice.{Choice}

-- the statements, or the grid, of an automaton
abbrev pub at : {A : Type 0} → List (List A) → ℕ → List A
at lists a = slice_index_or lists a []

-- in each automaton the pairs fit what stands reserved there
abbrev pub AllFit : List (List (Statement ℕ)) → (grids parts : List (List (Pair ℕ))) → Type 0
AllFit rules grids parts = (a : ℕ) → a < length rules → Fits (at rules a) (at grids a) (at parts a) 0

-- in no automaton an exclusion is broken
abbrev pub AreUnbroken : List (List (Statement ℕ)) → (grids : List (List (Pair ℕ))) → Type 0
AreUnbroken rules grids = (a : ℕ) → a < length rules → IsUnbroken (at rules a) (at grids a)

-- what an alternative takes in each automaton; nothing where there is no such alternative
abbrev pub parts_of : Option Choice → List (List (Pair ℕ))
parts_of None = []
parts_of (Some choice) = choice.parts.items

abbrev pub parts_at : List Choice → ℕ → List (List (Pair ℕ))
parts_at choices i = parts_of (slice_get choices i)

-- The number is that of the first alternative that fits; none where none fits.
abbrev pub IsFirstOf : List (List (Statement ℕ)) → (grids : List (List (Pair ℕ))) → List Choice → Option ℕ → Type 0
IsFirstOf rules grids choices None = (i : ℕ) → i < length choices → AllFit rules grids (parts_at choices i) → ⊥
IsFirstOf rules grids choices (Some i) = (i < length choices) × AllFit rules grids (parts_at choices i) × ((j : ℕ) → j < i → AllFit rules grids (parts_at choices j) → ⊥)

-- in no automaton a pair stands reserved and is added
abbrev pub AreApart : (grids parts : List (List (Pair ℕ))) → Type 0
AreApart grids parts = (a : ℕ) → a < length grids → ¬ Meets (at grids a) (at parts a)

-- in each automaton the new grid has the pairs of both
abbrev pub AreUnited : (grids parts new : List (List (Pair ℕ))) → Type 0
AreUnited grids parts new = (a : ℕ) → a < length grids → IsUnion (at grids a) (at parts a) (at new a)

-- the parts of the alternative of this number are added; without a number all stays
abbrev pub Takes : (old : List (List (Pair ℕ))) → List Choice → (new : List (List (Pair ℕ))) → Option ℕ → Type 0
Takes old choices new None = new ≡ old
Takes old choices new (Some i) = AreUnited old (parts_at choices i) new

-- the new grid has the pairs that stand so many cycles later in the old one
abbrev pub IsLaterBy : ℕ → (old new : List (Pair ℕ)) → Type 0
IsLaterBy n old new = (p : Pair ℕ) → Contains new p ↔ Contains old (later n p)

-- the same in each automaton
pub record AreLaterBy (n : ℕ) (old new : List (List (Pair ℕ))) : Type 0 where
  pub each : length new ≡ length old
  pub moved : (a : ℕ) → a < length old → IsLaterBy n (at old a) (at new a)

-- ---- how far a loop has come

-- up to an automaton the grids are moved, and from it on they are as they were
pub record IsMovedUpTo (n automata : ℕ) (old new : List (List (Pair ℕ))) : Type 0 where
  pub each : length new ≡ length old
  pub done : (a : ℕ) → a < automata → IsLaterBy n (at old a) (at new a)
  pub left : (a : ℕ) → automata ≤ a → at new a ≡ at old a

-- up to an automaton the parts are added, and from it on the grids are as they were
pub record IsUnitedUpTo (automata : ℕ) (old parts new : List (List (Pair ℕ))) : Type 0 where
  pub each : length new ≡ length old
  pub done : (a : ℕ) → a < automata → IsUnion (at old a) (at parts a) (at new a)
  pub left : (a : ℕ) → automata ≤ a → at new a ≡ at old a
