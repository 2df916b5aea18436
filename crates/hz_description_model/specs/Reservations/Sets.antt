-- The five set statements. GCC Internals, 'Specifying processor pipeline description'; the cycles and states that they
-- look at are this profile's, docs/RULES.md.
use Rattle.std.specs.Prelude.{◌≡◌, ℕ, List, [], ◌∷◌, ◌++◌, map}
use Rattle.std.specs.List.{Contains}
use Rattle.hz_base_model.specs.Pairs.{Pair, placed}

-- the five set statements
pub data SetKind : Type 0 where
  exclusion : SetKind
  presence : SetKind
  final_presence : SetKind
  absence : SetKind
  final_absence : SetKind

-- A set statement: units, and patterns of units.
pub record Statement (U : Type 0) : Type 0 where
  pub kind : SetKind
  pub units : List U
  pub patterns : List (List U)

-- an exclusion of the units of two strings: each unit of the second is a pattern by itself
abbrev pub excludes : {U : Type 0} → List U → List U → Statement U
excludes units others = record { kind = exclusion; units = units; patterns = map (λ u. u ∷ []) others }

-- the units that pairs hold in a cycle
abbrev pub Holds : {U : Type 0} → List (Pair U) → ℕ → U → Type 0
Holds pairs cycle unit = Contains pairs (record { unit = unit; cycle = cycle })

-- some unit of the list is held
abbrev pub HoldsSome : {U : Type 0} → List U → (U → Type 0) → Type 0
HoldsSome {U} units held = (u : U) × Contains units u × held u

-- some pattern is wholly held
abbrev pub HoldsPattern : {U : Type 0} → List (List U) → (U → Type 0) → Type 0
HoldsPattern {U} patterns held = (pattern : List U) × Contains patterns pattern × ((u : U) → Contains pattern u → held u)

-- What a statement asks of one cycle: of the units that stood there, those that are added, and all of them.
-- A plain form looks at what stood there, a final form at the result. Where a presence form asks for each added
-- unit that some pattern is there, it asks so as soon as one unit is added, since no pattern depends on the unit.
pub record AllowsIn {U : Type 0} (s : Statement U) (source added result : U → Type 0) : Type 0 where
  pub excluded : s.kind ≡ exclusion → HoldsSome s.units result → HoldsPattern s.patterns result → ⊥
  pub present : s.kind ≡ presence → HoldsSome s.units added → HoldsPattern s.patterns source
  pub finally_present : s.kind ≡ final_presence → HoldsSome s.units added → HoldsPattern s.patterns result
  pub absent : s.kind ≡ absence → HoldsSome s.units added → HoldsPattern s.patterns source → ⊥
  pub finally_absent : s.kind ≡ final_absence → HoldsSome s.units added → HoldsPattern s.patterns result → ⊥

-- Pairs that are added at cycle `now` fit the source: none is there yet, and each statement allows each cycle.
pub record Fits {U : Type 0} (statements : List (Statement U)) (source pairs : List (Pair U)) (now : ℕ) : Type 0 where
  pub apart : (p : Pair U) → Contains source p → Contains (placed now pairs) p → ⊥
  pub allowed : (s : Statement U) → Contains statements s → (cycle : ℕ) → AllowsIn s (Holds source cycle) (Holds (placed now pairs) cycle) (Holds (source ++ placed now pairs) cycle)
