-- Which reservations and classes pass a limit of their number or length.
use Rattle.std.specs.Prelude.{◌≡◌, ℕ, Bool, List, ◌++◌, map, filter, Option, None, IsTrue}
use Rattle.std.specs.List.{Contains}
use Rattle.hz_altern.specs.Tables.{is_held, AreRight}
use Rattle.hz_check_reservations.specs.declared.listing.extents.PastExtents.{PastExtents}
use Rattle.hz_check_reservations.specs.Places.{reported}
use Rattle.hz_description_model.specs.Reservations.AlternativeLists.{Extent}
use Rattle.hz_description_model.specs.Check.CheckFaults as check
use Rattle.hz_description_model.specs.Check.CheckFaults.{past_limit, has_too_many, has_too_long}
use Rattle.hz_description_model.specs.Check.CountingOrder.{Reserving}
use Rattle.hz_description_model.specs.Reading.Descriptions.{Description}
use Rattle.hz_description_model.specs.Reservations.Expressions.{is_expression}
use Rattle.hz_description_model.specs.Check.Places.{IsKnown, Known}
use Rattle.hz_description_model.specs.Reservations.NamesIn.{all_names}
use Rattle.hz_description_model.specs.Check.Sites.{Site, earliest}

-- the sites of those that pass a test
abbrev pub sites_of : (Reserving → Bool) → List Reserving → List Site
sites_of test items = map (λ r. r.site) (filter test items)

-- expressions that can be written, whose names have extents
pub record AreCountable (table : List ℕ → Option Extent) (items : List Reserving) : Type 0 where
  pub formed : (r : Reserving) → Contains items r → IsTrue (is_expression r.expression)
  pub held : (r : Reserving) → Contains items r → IsTrue (all_names (is_held table) r.expression)

-- the extents are those of alternatives
pub record AreRightFor (table : List ℕ → Option Extent) (known : Known) (items : List Reserving) : Type 0 where
  pub each : (r : Reserving) → Contains items r → AreRight table known r.expression

-- what is reported where these items stand before others
pub record TellsAfter (table : List ℕ → Option Extent) (items : List Reserving) (old new : PastExtents) : Type 0 where
  pub many : (known : Known) → AreRightFor table known items → (beyond : List Site) → reported old.alternatives ≡ earliest beyond → reported new.alternatives ≡ earliest (sites_of (has_too_many known) items ++ beyond)
  pub long : (known : Known) → AreRightFor table known items → (beyond : List Site) → reported old.cycles ≡ earliest beyond → reported new.cycles ≡ earliest (sites_of (has_too_long known) items ++ beyond)

-- where the two limits are passed
pub record ArePast (d : Description) (order : List Reserving) (past : PastExtents) : Type 0 where
  pub many : (known : Known) → IsKnown d known → reported past.alternatives ≡ earliest (past_limit d known order check.alternatives)
  pub long : (known : Known) → IsKnown d known → reported past.cycles ≡ earliest (past_limit d known order check.cycles)

-- neither of the two limits is passed
pub record AreWithinExtents (d : Description) (order : List Reserving) : Type 0 where
  pub few : (known : Known) → IsKnown d known → earliest (past_limit d known order check.alternatives) ≡ None
  pub short : (known : Known) → IsKnown d known → earliest (past_limit d known order check.cycles) ≡ None
