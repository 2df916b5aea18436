-- Where a fault is reported that depends on what stands before, in the words of the rules. Laws: `second_names_are_reported`,
-- `units_past_their_limit_are_reported`, `places_count_units_before`, `size_is_reported_where_it_passes`, `second_numbers_are_reported`,
-- `first_query_units_are_reported`.
use Rattle.std.specs.Prelude.{◌≡◌, ◌≢◌, ◌⊎◌, ◌<◌, ◌≤◌, ◌==◌, ℕ, List, [], ◌∷◌, ◌++◌, filter, length, IsTrue}
use Rattle.std.specs.List.{Contains, sum_by}
use Rattle.hz_base_model.specs.Limits.{unit_limit}
use Rattle.hz_description_model.specs.Reservations.Limits.{size_limit}
use Rattle.hz_description_model.specs.Reservations.Automata.{total_size}
use Rattle.hz_description_model.specs.Reading.Descriptions.{Description, UnitItem, BypassItem}
use Rattle.hz_description_model.specs.Check.CheckFaults.{IsFirst, unit_site}
use Rattle.hz_description_model.specs.Check.Sites.{Site}
use Rattle.hz_description_model.specs.Check.Places.{automaton_number, Known}
use Rattle.hz_description_model.specs.Check.CountingOrder.{Reserving, alternatives_in}

-- Of items in their order those are reported, by their sites, of which a fact holds after all that stand before them.
pub data ReportedAfter {A : Type 0} (IsWrong : List A → A → Type 0) (site : A → Site) : (before items : List A) (reported : List Site) → Type 0 where
  ends : {before : List A} → ReportedAfter IsWrong site before [] []
  tells : {before items : List A} {item : A} {reported : List Site} → IsWrong before item → ReportedAfter IsWrong site (before ++ item ∷ []) items reported → ReportedAfter IsWrong site before (item ∷ items) (site item ∷ reported)
  passes : {before items : List A} {item : A} {reported : List Site} → (IsWrong before item → ⊥) → ReportedAfter IsWrong site (before ++ item ∷ []) items reported → ReportedAfter IsWrong site before (item ∷ items) reported

-- a name of these sites, or one that an earlier form gives to one of the others, stands before
abbrev pub StandsBefore : List Site → List Site → Site → Type 0
StandsBefore others before s = ((o : Site) × Contains before o × (o.name ≡ s.name)) ⊎ ((o : Site) × Contains others o × (o.name ≡ s.name) × (o.form < s.form))

-- how many of these units are of the unit's automaton
abbrev pub units_beside : Description → List UnitItem → UnitItem → ℕ
units_beside d units u = length (filter (λ v. automaton_number d v.automaton == automaton_number d u.automaton) units)

-- so many units of its automaton stand before the unit as may be in all
abbrev pub IsPastUnits : Description → List UnitItem → UnitItem → Type 0
IsPastUnits d before u = unit_limit ≤ units_beside d before u

-- the size of reservations and classes together: the cycles and the pairs of all their alternatives
abbrev pub size_together : Known → List Reserving → ℕ
size_together known items = sum_by (λ r. total_size (alternatives_in known r)) items

-- The first item with which the size passes its limit, where they count in this order.
pub record PassesSize (known : Known) (order : List Reserving) (s : Site) : Type 0 where
  pub before : List Reserving
  pub item : Reserving
  pub after : List Reserving
  pub parts : order ≡ before ++ item ∷ after
  pub is : s ≡ item.site
  pub within : size_together known before ≤ size_limit
  pub past : size_limit < size_together known (before ++ item ∷ [])

-- The bypass gives a pair of classes, the first of this name, another number than some earlier one.
pub record IsRenumbered (before : List BypassItem) (b : BypassItem) (out : List ℕ) : Type 0 where
  pub earlier : BypassItem
  pub consumer : List ℕ
  pub stands : Contains before earlier
  pub from : Contains b.outs out
  pub to : Contains b.ins consumer
  pub from_earlier : Contains earlier.outs out
  pub to_earlier : Contains earlier.ins consumer
  pub other : earlier.number ≢ b.number

-- the site is that of such a pair, of these bypasses
pub record TellsSecondNumber (bypasses : List BypassItem) (s : Site) : Type 0 where
  pub before : List BypassItem
  pub b : BypassItem
  pub after : List BypassItem
  pub parts : bypasses ≡ before ++ b ∷ after
  pub pair : IsRenumbered before b s.name
  pub line : s.line ≡ b.line
  pub form : s.form ≡ b.form

-- The site is that of the first query unit, and the option `ndfa` is given.
pub record TellsFirstQuery (d : Description) (s : Site) : Type 0 where
  pub ndfa : IsTrue (d.options).ndfa
  pub u : UnitItem
  pub first : IsFirst (λ u. IsTrue u.query) d.units u
  pub is : s ≡ unit_site u
