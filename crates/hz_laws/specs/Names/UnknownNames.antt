-- Which names are not defined as what is wanted where they stand. This profile, docs/RULES.md, 'Faults of a description'.
use Rattle.std.specs.Prelude.{◌≡◌, ◌≢◌, ◌⊎◌, ℕ, Bool, List}
use Rattle.std.specs.List.{Contains}
use Rattle.hz_description_model.specs.Reservations.NamesIn.{names_in}
use Rattle.hz_description_model.specs.Reading.Descriptions.{Description, Condition, Conditions, UnitItem, ReservationItem, ClassItem, BypassItem, SetItem, AttributeItem}
use Rattle.hz_description_model.specs.Reading.Descriptions as condition
use Rattle.hz_description_model.specs.Check.CheckFaults.{IsFirst}
use Rattle.hz_description_model.specs.Check.Sites.{Site}
use Rattle.hz_laws.specs.Names.NameFaults.{IsAt}

-- no unit is called so
abbrev pub IsNoUnit : Description → List ℕ → Type 0
IsNoUnit d name = (u : UnitItem) → Contains d.units u → u.name ≢ name

-- no reservation is called so
abbrev pub IsNoReservation : Description → List ℕ → Type 0
IsNoReservation d name = (r : ReservationItem) → Contains d.reservations r → r.name ≢ name

-- no class is called so
abbrev pub IsNoClass : Description → List ℕ → Type 0
IsNoClass d name = (c : ClassItem) → Contains d.classes c → c.name ≢ name

-- the set names this, in its first string or in a pattern of its second
abbrev pub IsNamedBy : SetItem → List ℕ → Type 0
IsNamedBy e name = Contains e.units name ⊎ ((pattern : List (List ℕ)) × Contains e.patterns pattern × Contains pattern name)

-- the condition is one of those side by side
pub data IsOneOf (test : Condition) : (tests : Conditions) → Type 0 where
  here : {others : Conditions} → IsOneOf test (condition.more test others)
  later : {first : Condition} {others : Conditions} → IsOneOf test others → IsOneOf test (condition.more first others)

-- A condition names this: an attribute that is not defined, or a value that the first attribute of the name does not have.
pub data IsUnknownIn (d : Description) : (test : Condition) (name : List ℕ) → Type 0 where
  of_attribute : {attribute : List ℕ} {values : List (List ℕ)} {negated : Bool} → ((a : AttributeItem) → Contains d.attributes a → a.name ≢ attribute)
      → IsUnknownIn d (condition.matches attribute values negated) attribute
  of_value : {attribute value : List ℕ} {values : List (List ℕ)} {negated : Bool} {a : AttributeItem} → IsFirst (λ b. b.name ≡ attribute) d.attributes a
      → Contains values value → (Contains a.values value → ⊥) → IsUnknownIn d (condition.matches attribute values negated) value
  of_negation : {test : Condition} {name : List ℕ} → IsUnknownIn d test name → IsUnknownIn d (condition.negation test) name
  of_conjunction : {test : Condition} {tests : Conditions} {name : List ℕ} → IsOneOf test tests → IsUnknownIn d test name → IsUnknownIn d (condition.conjunction tests) name
  of_disjunction : {test : Condition} {tests : Conditions} {name : List ℕ} → IsOneOf test tests → IsUnknownIn d test name → IsUnknownIn d (condition.disjunction tests) name

-- The name is not defined as what is wanted there: in an expression as a unit or a reservation, in a bypass as a class, in a set
-- as a unit, in a condition as an attribute or a value, and as a default among the attribute's values.
pub data IsUnknownName (d : Description) (s : Site) : Type 0 where
  of_reservation : {r : ReservationItem} → Contains d.reservations r → IsAt s r.line r.form → Contains (names_in r.expression) s.name → IsNoUnit d s.name → IsNoReservation d s.name → IsUnknownName d s
  of_class : {c : ClassItem} → Contains d.classes c → IsAt s c.line c.form → Contains (names_in c.expression) s.name → IsNoUnit d s.name → IsNoReservation d s.name → IsUnknownName d s
  of_condition : {c : ClassItem} → Contains d.classes c → IsAt s c.line c.form → IsUnknownIn d c.condition s.name → IsUnknownName d s
  of_bypass : {b : BypassItem} → Contains d.bypasses b → IsAt s b.line b.form → Contains b.outs s.name ⊎ Contains b.ins s.name → IsNoClass d s.name → IsUnknownName d s
  of_set : {e : SetItem} → Contains d.sets e → IsAt s e.line e.form → IsNamedBy e s.name → IsNoUnit d s.name → IsUnknownName d s
  of_default : {a : AttributeItem} → Contains d.attributes a → IsAt s a.line a.form → s.name ≡ a.fallback → (Contains a.values s.name → ⊥) → IsUnknownName d s
