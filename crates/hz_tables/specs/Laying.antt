-- Rows that are laid into a comb, one after the other. These words are only to prove with.
use Rattle.std.specs.Prelude.{◌≡◌, ℕ, ◌-◌, ◌<◌, ◌≤◌, ◌==◌, ◌&&◌, ◌||◌, not, nat_le, nat_lt, if◌then◌else◌, is_some, Bool, true, false, ◌⊎◌, List, Option, Some, length, slice_index}
use Rattle.hz_pipeline_model.specs.Tables.Tables.{Table, entry}
use Rattle.hz_pipeline_model.specs.Combs.Combs.{Comb, HasPlaces, laid}

-- a place has no owner, or is after all places
abbrev pub is_free : List ℕ → ℕ → ℕ → Bool
is_free owners free place = not (nat_lt place (length owners)) || (slice_index owners place == free)

-- whether one of the first entries of a row, laid from a base on, is at a place
abbrev pub is_laid : (ℕ → Option ℕ) → ℕ → ℕ → ℕ → Bool
is_laid row count base place = nat_le base place && (nat_lt (place - base) count && is_some (row (place - base)))

-- The first entries of a row are laid from a base on, and nothing else is changed.
pub record Lays (row : ℕ → Option ℕ) (count base state : ℕ) (owners targets new_owners new_targets : List ℕ) : Type 0 where
  pub each : length new_owners ≡ length owners
  pub same : length new_targets ≡ length targets
  pub owner : (place : ℕ) → slice_index new_owners place ≡ (if is_laid row count base place then state else slice_index owners place)
  pub target : (place next : ℕ) → is_laid row count base place ≡ true → row (place - base) ≡ Some next → slice_index new_targets place ≡ next
  pub other : (place : ℕ) → is_laid row count base place ≡ false → slice_index new_targets place ≡ slice_index targets place

-- The first rows of a table are laid, as many as there are bases; the places of no row are owned by the number of all states.
pub record IsLaid (table : Table) (comb : Comb) : Type 0 where
  pub places : HasPlaces comb
  pub few : length comb.bases ≤ length table
  pub owners : (place : ℕ) → place < length comb.owners → (slice_index comb.owners place < length comb.bases) ⊎ (slice_index comb.owners place ≡ length table)
  pub targets : (place : ℕ) → place < length comb.owners → slice_index comb.targets place < length table
  pub entries : (state column : ℕ) → state < length comb.bases → column ≤ comb.columns → laid comb state column ≡ entry table state column
