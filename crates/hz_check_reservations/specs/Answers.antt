-- What is answered.
use Rattle.std.specs.Prelude.{◌≡◌, ℕ, ◌+◌, ◌<◌, ◌≤◌, Bool, true, false, List, [], ◌∷◌, ◌++◌, map, All, Option, Some, None, Result, Ok, Err, IsErr}
use Rattle.std.specs.declared.alloc.Global.{Global}
use Rattle.std.specs.declared.vec.Vec.{Vec}
use Rattle.hz_altern.specs.declared.alternative.Alt.{Alt}
use Rattle.hz_altern.specs.declared.fault.AlternFault.{AlternFault}
use Rattle.hz_altern.specs.declared.fault.AlternFault.TheVariants as altern
use Rattle.hz_altern.specs.Shapes.{alternatives}
use Rattle.hz_altern.specs.Tables.{alternatives_in, Adds}
use Rattle.hz_check_reservations.specs.declared.listing.unexpanded.Unexpanded.{Unexpanded}
use Rattle.hz_check_reservations.specs.declared.listing.unexpanded.Unexpanded.TheVariants.{Size, NoMemory}
use Rattle.hz_check_reservations.specs.declared.listing.state.Expansion.{Expansion}
use Rattle.hz_check_reservations.specs.Shape.{lists_of}
use Rattle.hz_description_model.specs.Reservations.Alternatives.{Alternative, alternatives_of}
use Rattle.hz_description_model.specs.Reservations.AlternativeLists.{AreSound}
use Rattle.hz_description_model.specs.Reservations.Automata.{UnitPlace, listed, total_size}
use Rattle.hz_description_model.specs.Check.CheckFaults.{past_limit, size}
use Rattle.hz_description_model.specs.Check.CountingOrder.{Reserving}
use Rattle.hz_description_model.specs.Reading.Descriptions.{Description}
use Rattle.hz_description_model.specs.Reservations.Limits.{size_limit}
use Rattle.hz_description_model.specs.Check.Places.{IsKnown, Known}
use Rattle.hz_description_model.specs.Check.Sites as model
use Rattle.hz_check_reservations.specs.Places.{site_of}

-- the alternatives of each class, in the order of the file, each listed the one way; and the limit of sizes is not passed
pub record AreExpanded (d : Description) (order : List Reserving) (lists : List (Vec Alt Global)) : Type 0 where
  pub each : (known : Known) → IsKnown d known → lists_of lists ≡ map (λ c. map listed (alternatives_of known c.expression)) d.classes
  pub sound : All (λ list. AreSound (alternatives list.items)) lists
  pub within : (known : Known) → IsKnown d known → model.earliest (past_limit d known order size) ≡ None

-- the site is where the limit of sizes is passed
pub record IsPastSize (d : Description) (order : List Reserving) (site : model.Site) : Type 0 where
  pub first : (known : Known) → IsKnown d known → model.earliest (past_limit d known order size) ≡ Some site

-- why the classes are not expanded; want of memory says nothing
abbrev pub Refuses : Description → List Reserving → Unexpanded → Type 0
Refuses d order (Size site) = IsPastSize d order (site_of site)
Refuses d order NoMemory = Unit {0}

-- alternatives that are kept for a class, or for a reservation by its name
abbrev pub Keeps : Bool → List ℕ → List (Alternative UnitPlace) → Expansion → Expansion → Type 0
Keeps true name list old new = (new.known ≡ old.known) × (lists_of new.lists.items ≡ lists_of old.lists.items ++ list ∷ [])
Keeps false name list old new = Adds (alternatives_in old.known) (alternatives_in new.known) name list × (lists_of new.lists.items ≡ lists_of old.lists.items)

-- lists of sound alternatives stay such
pub record KeepsSound (old new : Expansion) : Type 0 where
  pub each : All (λ list. AreSound (alternatives list.items)) old.lists.items → All (λ list. AreSound (alternatives list.items)) new.lists.items

-- a reservation or class with these alternatives is expanded
pub record Expands (r : Reserving) (all : List (Alternative UnitPlace)) (old new : Expansion) : Type 0 where
  pub keeps : Keeps r.is_class (r.site).name (map listed all) old new
  pub size : new.size ≡ old.size + total_size all
  pub small : new.size ≤ size_limit
  pub sound : KeepsSound old new

-- it is not expanded, since with its alternatives all are too large
abbrev pub IsTooLarge : Reserving → List (Alternative UnitPlace) → Expansion → Unexpanded → Type 0
IsTooLarge r all old (Size site) = (site_of site ≡ r.site) × (size_limit < old.size + total_size all)
IsTooLarge r all old NoMemory = Unit {0}

-- alternatives where they were listed, and none where they pass a limit; want of memory stays
abbrev pub IsMadeIfListed : {A E : Type 0} → Result A AlternFault → Result (Option A) E → Type 0
IsMadeIfListed (Ok alts) made = made ≡ Ok (Some alts)
IsMadeIfListed (Err altern.AlternativesLimit) made = made ≡ Ok None
IsMadeIfListed (Err altern.CyclesLimit) made = made ≡ Ok None
IsMadeIfListed (Err altern.SizeLimit) made = made ≡ Ok None
IsMadeIfListed (Err altern.NoMemory) made = IsErr made

-- the alternatives, each listed the one way, where they have no more than so many cycles and pairs together
abbrev pub Makes : ℕ → List (Alternative UnitPlace) → Option (Vec Alt Global) → Type 0
Makes most all (Some alts) = (alternatives alts.items ≡ map listed all) × AreSound (alternatives alts.items) × (total_size all ≤ most)
Makes most all None = most < total_size all
