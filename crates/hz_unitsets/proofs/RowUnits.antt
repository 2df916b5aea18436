-- Rows as lists of units.
use Rattle.std.proofs.Common.{◌≡◌, ℕ, ◌+◌, ◌<◌, ◌↔◌, ◌⊎◌, inl, inr, ⊎_elim, List, [], ◌∷◌, ◌++◌, length, get_or, take, map, All, Contains, sym, subst}
use Rattle.std.specs.Prelude.{◌==◌}
use Rattle.std.specs.List.{Any, list_any, range_with_len}
use Rattle.std.proofs.lemmas.Bool.Decides.{same_from_decides}
use Rattle.std.proofs.lemmas.List.{take_more}
use Rattle.std.proofs.lemmas.List.Elements.{All-contains, filter_agree, Contains-append_left, Contains-push, Contains-push_cases}
use Rattle.hz_description_model.specs.Reservations.Sets.{HoldsSome, HoldsPattern}
use Rattle.hz_base_model.proofs.Elements.{Contains-nil, Contains-filter, Contains-from_filter, Contains-map, Contains-from_map, Contains-range}
use Rattle.hz_grid.specs.declared.rows.TheConstants.{UNITS}
use Rattle.hz_grid.specs.Rows.{has_unit, HasUnit, RowsMeet, IsWithin}
use Rattle.hz_unitsets.specs.SetRules.{in_order}
use Rattle.hz_unitsets.specs.RowRules.{IsRow}
use Rattle.hz_unitsets.proofs.InOrder.{list_any_decides}
use Rattle.hz_grid.specs.Stored.{units_of}

pub Contains-units_of : (row unit : ℕ) → IsRow row → HasUnit row unit → Contains (units_of row) unit
unfolding units_of
Contains-units_of row unit is h = Contains-filter (has_unit row) unit h (range_with_len 0 UNITS) (Contains-range UNITS unit (is.below unit h))

pub unit_from_units_in : (row unit : ℕ) → Contains (units_of row) unit → HasUnit row unit
unfolding units_of
unit_from_units_in row unit h = (Contains-from_filter (has_unit row) unit (range_with_len 0 UNITS) h).1

pub some_unit : (units row : ℕ) → IsRow units → RowsMeet units row ↔ HoldsSome (units_of units) (HasUnit row)
some_unit units row is = (
  λ h. (h.0, Contains-units_of units h.0 is h.1, h.2),
  λ h. (h.0, unit_from_units_in units h.0 h.1, h.2),
)

pub some_pattern : (patterns : List ℕ) (row : ℕ) → All IsRow patterns → Any (λ pattern. IsWithin pattern row) patterns ↔ HoldsPattern (map units_of patterns) (HasUnit row)
some_pattern patterns row are = (
  λ h. (units_of h.1, Contains-map units_of patterns h.1 (h.0, h.2, h.3), λ unit is. h.4 unit (unit_from_units_in h.1 unit is)),
  λ h.
      let found = Contains-from_map units_of patterns h.0 h.1 in
      let is : IsRow found.0 = All-contains IsRow patterns found.0 are found.1 in (
        found.1.0,
        found.0,
        found.1.1,
        found.1.2,
        λ unit has. h.2 unit (subst (λ (units : List ℕ). Contains units unit) found.2 (Contains-units_of found.0 unit is has)),
      ),
)

-- ---- a row made of units

-- the row has the units of the list and no others
abbrev pub HasJust : List ℕ → ℕ → Type 0
HasJust units row = (unit : ℕ) → HasUnit row unit ↔ Contains units unit

pub HasJust-none : (row : ℕ) → ((unit : ℕ) → HasUnit row unit → ⊥) → HasJust [] row
HasJust-none row none unit = (λ h. absurd (none unit h), λ h. absurd (Contains-nil unit h))

pub HasJust-more : (units : List ℕ) (k old new : ℕ) → k < length units → HasJust (take k units) old → ((unit : ℕ) → HasUnit new unit ↔ (HasUnit old unit ⊎ (unit ≡ get_or units k 0))) → HasJust (take (k + 1) units) new
HasJust-more units k old new within just gains unit =
    let more : take (k + 1) units ≡ take k units ++ get_or units k 0 ∷ [] = take_more units k 0 within in (
      λ h. rw more (⊎_elim
          (λ (before : HasUnit old unit). Contains-append_left (take k units) (get_or units k 0 ∷ []) unit ((just unit).0 before))
          (λ (e : unit ≡ get_or units k 0). rw e (Contains-push (take k units) (get_or units k 0)))
          ((gains unit).0 h)),
      λ h. (gains unit).1 (⊎_elim (λ m. inl ((just unit).1 m)) (λ e. inr (sym e)) (Contains-push_cases (take k units) (get_or units k 0) unit (rw more at h))),
    )

pub IsRow-just : (units : List ℕ) (row : ℕ) → All (λ unit. unit < UNITS) units → HasJust units row → IsRow row
IsRow-just units row small just = record { below = λ unit h. All-contains (λ u. u < UNITS) units unit small ((just unit).0 h) }

pub units_of-just : (units : List ℕ) (row : ℕ) → HasJust units row → units_of row ≡ in_order units
unfolding units_of in_order
units_of-just units row just =
    filter_agree (has_unit row) (λ unit. list_any (λ u. u == unit) units)
    (λ unit. same_from_decides (has_unit row unit) (list_any (λ u. u == unit) units) (just unit) (list_any_decides units unit))
    (range_with_len 0 UNITS)
