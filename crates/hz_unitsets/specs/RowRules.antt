-- Rules whose units and patterns are rows.
use Rattle.std.specs.Prelude.{◌≡◌, ◌⊎◌, ℕ, ◌<◌, ◌≤◌, List, [], ◌∷◌, map, length, get_or, ◌++◌, All, Contains}
use Rattle.hz_base_model.specs.Pairs.{Pair}
use Rattle.hz_description_model.specs.Reservations.Sets.{Statement, exclusion, presence, final_presence, absence, final_absence, Holds, HoldsSome, HoldsPattern, AllowsIn}
use Rattle.hz_grid.specs.declared.rows.TheConstants.{UNITS}
use Rattle.hz_grid.specs.Rows.{HasUnit, RowsMeet, IsWithin}
use Rattle.hz_grid.specs.Used.{MeetsIn}
use Rattle.hz_unitsets.specs.declared.row_rules.Rule.{Rule}
use Rattle.hz_unitsets.specs.declared.rules.Asked.{Asked}
use Rattle.hz_unitsets.specs.declared.rules.Block.{Block}
use Rattle.hz_unitsets.specs.SetRules.{kind_of}
use Rattle.hz_grid.specs.Stored.{units_of}

-- the statement that a rule is
abbrev pub statement_in : Rule → Statement ℕ
statement_in rule = record { kind = kind_of rule.kind; units = units_of rule.units; patterns = map units_of rule.patterns.items }

-- each unit of the row is a unit of an automaton
pub record IsRow (row : ℕ) : Type 0 where
  pub below : (unit : ℕ) → HasUnit row unit → unit < UNITS

-- the same of each row of the rule
pub record IsBounded (rule : Rule) : Type 0 where
  pub units : IsRow rule.units
  pub patterns : All IsRow rule.patterns.items

-- the statement allows that cycle of two grids, of which the second is added to the first
abbrev pub AllowsAt : Statement ℕ → List (Pair ℕ) → List (Pair ℕ) → ℕ → Type 0
AllowsAt s source add cycle = AllowsIn s (Holds source cycle) (Holds add cycle) (Holds (source ++ add) cycle)

-- the statement allows each cycle
pub record Allows (s : Statement ℕ) (source add : List (Pair ℕ)) : Type 0 where
  pub at : (cycle : ℕ) → AllowsAt s source add cycle

-- in that cycle a unit of the statement stands with a pattern of it
abbrev pub StandsAt : Statement ℕ → List (Pair ℕ) → ℕ → Type 0
StandsAt s pairs cycle = HoldsSome s.units (Holds pairs cycle) × HoldsPattern s.patterns (Holds pairs cycle)

-- the same of some cycle
abbrev pub StandsIn : Statement ℕ → List (Pair ℕ) → Type 0
StandsIn s pairs = (cycle : ℕ) × HoldsSome s.units (Holds pairs cycle) × HoldsPattern s.patterns (Holds pairs cycle)

-- the statement is an exclusion, and it stands in the pairs
abbrev pub Breaks : Statement ℕ → List (Pair ℕ) → Type 0
Breaks s pairs = (s.kind ≡ exclusion) × StandsIn s pairs

-- the statement allows a cycle of these rows, what stood there and what is added
abbrev pub AllowsRows : Statement ℕ → ℕ → ℕ → Type 0
AllowsRows s there added = AllowsIn s (HasUnit there) (HasUnit added) (λ unit. HasUnit there unit ⊎ HasUnit added unit)

-- the statement is an exclusion, and it stands in the row
abbrev pub BreaksRow : Statement ℕ → ℕ → Type 0
BreaksRow s row = (s.kind ≡ exclusion) × HoldsSome s.units (HasUnit row) × HoldsPattern s.patterns (HasUnit row)

-- The addition of the unit may break the statement: it is of its first string, or of a pattern of an exclusion.
abbrev pub IsTrigger : Statement ℕ → ℕ → Type 0
IsTrigger s unit = Contains s.units unit ⊎ ((s.kind ≡ exclusion) × (pattern : List ℕ) × Contains s.patterns pattern × Contains pattern unit)

-- the statement of a rule that is asked
abbrev pub asked_statement : Asked → Statement ℕ
asked_statement asked = statement_in asked.rule

-- the rule's triggers are noted with it
pub record IsAsked (asked : Asked) : Type 0 where
  pub bounded : IsBounded asked.rule
  pub triggers : (unit : ℕ) → IsTrigger (asked_statement asked) unit → HasUnit asked.triggers unit

-- the same of each of the rules, and the row has the triggers of all
pub record AreAsked (rules : List Asked) (all : ℕ) : Type 0 where
  pub each : All IsAsked rules
  pub triggers : All (λ asked. IsWithin asked.triggers all) rules

-- an item is there once more only where it was not there
abbrev pub IsKept : {X : Type 0} → List X → X → List X → Type 0
IsKept old item new = (Contains old item × (new ≡ old)) ⊎ ((Contains old item → ⊥) × (new ≡ old ++ item ∷ []))

-- a statement is in the one list exactly where it is in the other
pub record AreSame (first second : List (Statement ℕ)) : Type 0 where
  pub there : (s : Statement ℕ) → Contains first s → Contains second s
  pub back : (s : Statement ℕ) → Contains second s → Contains first s

-- the pattern has one of the keys
pub record HasKey (pattern keys : ℕ) : Type 0 where
  pub key : RowsMeet pattern keys

-- each pattern has one of the keys, or each unit is one
abbrev pub AreKeys : List ℕ → ℕ → ℕ → Type 0
AreKeys patterns units keys = All (λ pattern. HasKey pattern keys) patterns ⊎ IsWithin units keys

-- some pattern of the statement is in the wanted row, or each unit is a key
abbrev pub IsWanted : Statement ℕ → ℕ → ℕ → ℕ → Type 0
IsWanted s units keys wanted = HoldsPattern s.patterns (HasUnit wanted) ⊎ IsWithin units keys

-- The statement allows a cycle of these rows where no key is in either, and all that is wanted is reserved.
pub record IsSummed (s : Statement ℕ) (keys wanted : ℕ) : Type 0 where
  pub allowed_rows : (there added : ℕ) → (RowsMeet keys there → ⊥) → (RowsMeet keys added → ⊥) → IsWithin wanted there → AllowsRows s there added

-- the block speaks of each rule from its first to its last
pub record IsBlock (rules : List Asked) (block : Block) : Type 0 where
  pub order : block.from ≤ block.to
  pub within : block.to ≤ length rules
  pub triggers : (k : ℕ) (d : Asked) → block.from ≤ k → k < block.to → IsWithin (get_or rules k d).triggers block.triggers
  pub summed : (k : ℕ) (d : Asked) → block.from ≤ k → k < block.to → IsSummed (asked_statement (get_or rules k d)) block.keys block.wanted

-- It is seen that no rule of the block is broken in a cycle with these rows, what is reserved there and what is added: no unit is
-- added that may break one, or no key is in either and all that is wanted is reserved.
abbrev pub PassesRows : Block → ℕ → ℕ → Type 0
PassesRows block there added = (RowsMeet block.triggers added → ⊥) ⊎ ((RowsMeet block.keys there → ⊥) × (RowsMeet block.keys added → ⊥) × IsWithin block.wanted there)

-- this holds of each rule from one place to another
abbrev pub Between : (Asked → Type 0) → List Asked → ℕ → ℕ → Type 0
Between holds rules from to = (k : ℕ) (d : Asked) → from ≤ k → k < to → holds (get_or rules k d)

-- Units that are added in a cycle fit the source: none stands there, and each statement allows the cycle.
pub record FitsRow (statements : List (Statement ℕ)) (source : List (Pair ℕ)) (cycle units : ℕ) : Type 0 where
  pub apart : MeetsIn source cycle units → ⊥
  pub allowed : All (λ s. AllowsIn s (Holds source cycle) (HasUnit units) (λ unit. Holds source cycle unit ⊎ HasUnit units unit)) statements

-- Pairs that are added fit the source in that cycle: none is in both, and each statement allows the cycle.
pub record FitsAt (statements : List (Statement ℕ)) (source add : List (Pair ℕ)) (cycle : ℕ) : Type 0 where
  pub apart : (unit : ℕ) → Holds source cycle unit → Holds add cycle unit → ⊥
  pub allowed : All (λ s. AllowsAt s source add cycle) statements

-- rules that are asked, with their blocks
pub record AreBuilt (rules : List Asked) (blocks : List Block) (all : ℕ) : Type 0 where
  pub asked : AreAsked rules all
  pub reported : All (IsBlock rules) blocks
