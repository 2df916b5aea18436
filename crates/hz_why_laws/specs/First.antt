-- The first of what forbids an alternative, by the order of the rules. This profile, docs/RULES.md, 'Reasons'.
use Rattle.std.specs.Prelude.{◌≡◌, ℕ, ◌<◌, List, [], ◌∷◌, ◌++◌, slice_get, Some}
use Rattle.std.specs.List.{Contains}
use Rattle.hz_base_model.specs.Pairs.{Pair}
use Rattle.hz_description_model.specs.Reservations.Sets.{SetKind, exclusion, presence, final_presence, absence, final_absence, Statement, Holds, AllowsIn}
use Rattle.hz_why_model.specs.Reasons.{Reason, taken, broken}

-- The item is the first of these that has a property.
pub record IsFirst {A : Type 0} (property : A → Type 0) (items : List A) (item : A) : Type 0 where
  pub before : List A
  pub after : List A
  pub parts : items ≡ before ++ item ∷ after
  pub has : property item
  pub none : (other : A) → Contains before other → property other → ⊥

-- the unit is the first that may break a statement of this kind: of an exclusion one that is held, else one that is added
abbrev pub IsFirstUnit : {U : Type 0} → SetKind → List U → (added result : U → Type 0) → U → Type 0
IsFirstUnit exclusion units added result unit = IsFirst result units unit
IsFirstUnit presence units added result unit = IsFirst added units unit
IsFirstUnit final_presence units added result unit = IsFirst added units unit
IsFirstUnit absence units added result unit = IsFirst added units unit
IsFirstUnit final_absence units added result unit = IsFirst added units unit

-- the pattern is wholly held
abbrev pub IsWhole : {U : Type 0} → (U → Type 0) → List U → Type 0
IsWhole {U} held pattern = (u : U) → Contains pattern u → held u

-- the pattern is the first that breaks a statement of this kind; none where a pattern is missed
abbrev pub IsFirstPattern : {U : Type 0} → SetKind → List (List U) → (source result : U → Type 0) → List U → Type 0
IsFirstPattern exclusion patterns source result pattern = IsFirst (IsWhole result) patterns pattern
IsFirstPattern presence patterns source result pattern = pattern ≡ []
IsFirstPattern final_presence patterns source result pattern = pattern ≡ []
IsFirstPattern absence patterns source result pattern = IsFirst (IsWhole source) patterns pattern
IsFirstPattern final_absence patterns source result pattern = IsFirst (IsWhole result) patterns pattern

-- the statement does not allow a cycle
abbrev pub Breaks : {U : Type 0} → (source added : List (Pair U)) → Statement U → ℕ → Type 0
Breaks source added s cycle = AllowsIn s (Holds source cycle) (Holds added cycle) (Holds (source ++ added) cycle) → ⊥

-- The statement of this number is the first that is broken in the cycle of an added pair, this cycle is the first of such a pair, and
-- the unit and the pattern are the first that break it there.
pub record IsFirstBroken {U : Type 0} (statements : List (Statement U)) (source added : List (Pair U)) (n cycle : ℕ) (unit : U) (pattern : List U) : Type 0 where
  pub statement : Statement U
  pub at : slice_get statements n ≡ Some statement
  pub others : (k : ℕ) (s : Statement U) → k < n → slice_get statements k ≡ Some s → (p : Pair U) → Contains added p → Breaks source added s p.cycle → ⊥
  pub pair : Pair U
  pub first : IsFirst (λ (p : Pair U). Breaks source added statement p.cycle) added pair
  pub time : pair.cycle ≡ cycle
  pub first_unit : IsFirstUnit statement.kind statement.units (Holds added cycle) (Holds (source ++ added) cycle) unit
  pub first_pattern : IsFirstPattern statement.kind statement.patterns (Holds source cycle) (Holds (source ++ added) cycle) pattern

-- What forbids added pairs first: the first pair that stands reserved; only where none does, the first statement that is broken.
abbrev pub IsFirstReason : {U : Type 0} → List (Statement U) → (source added : List (Pair U)) → Reason U → Type 0
IsFirstReason statements source added (taken p) = IsFirst (Contains source) added p
IsFirstReason {U} statements source added (broken n cycle unit pattern) = ((p : Pair U) → Contains added p → Contains source p → ⊥) × IsFirstBroken statements source added n cycle unit pattern
