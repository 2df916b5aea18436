-- What fits, cycle by cycle.
use Rattle.std.proofs.Common.{ℕ, ◌<◌, ◌≤◌, ◌↔◌, ◌⊎◌, inl, inr, ⊎_elim, List, ◌++◌, All, get_or, arith}
use Rattle.std.proofs.lemmas.Bool.{cases_lt}
use Rattle.std.proofs.lemmas.List.Elements.{All-contains, Contains-get_or}
use Rattle.hz_base_model.specs.Pairs.{Pair}
use Rattle.hz_description_model.specs.Reservations.Sets.{Statement, Holds, Fits}
use Rattle.hz_description_model.proofs.Reservations.FitLaws.{allows_same, some_with, pattern_with, iff_back}
use Rattle.hz_pipeline_model.specs.Accepting.Fitting.{IsUnbroken}
use Rattle.hz_grid.specs.Rows.{HasUnit, RowsMeet}
use Rattle.hz_grid.specs.declared.usage.UsedRow.{UsedRow}
use Rattle.hz_grid.specs.Used.{IsRowOf, AreRowsOf}
use Rattle.hz_grid.proofs.UsedLemmas.{meets_by_rows}
use Rattle.hz_unitsets.specs.RowRules.{AllowsRows, BreaksRow, FitsRow, FitsAt}
use Rattle.hz_unitsets.proofs.Cycles.{allows_untriggered, allows_used, fits_grids, grids_apart, grids_allowed, both_units}

-- ---- the row that stands in the cycle

module _ (statements : List (Statement ℕ)) (source : List (Pair ℕ)) (cycle there : ℕ) (is : (unit : ℕ) → HasUnit there unit ↔ Holds source cycle unit) where
  pub row_unbroken : IsUnbroken statements source → All (λ s. ¬ BreaksRow s there) statements
  row_unbroken h k d within b =
      let s = get_or statements k d in
      h.excluded s (Contains-get_or statements k d within) b.0 cycle (some_with s.units _ _ (λ u. (is u).0) b.1) (pattern_with s.patterns _ _ (λ u. (is u).0) b.2)

  both : (units unit : ℕ) → (HasUnit there unit ⊎ HasUnit units unit) ↔ (Holds source cycle unit ⊎ HasUnit units unit)
  both units unit = (
    λ h. ⊎_elim (λ l. inl ((is unit).0 l)) (λ r. inr r) h,
    λ h. ⊎_elim (λ l. inl ((is unit).1 l)) (λ r. inr r) h,
  )

  pub row_fits : (units : ℕ) → ((RowsMeet there units → ⊥) × All (λ s. AllowsRows s there units) statements) ↔ FitsRow statements source cycle units
  row_fits units = (
    λ h. record {
      apart = λ m. h.0 (m.0, (is m.0).1 m.1, m.2);
      allowed = λ k d within. allows_same _ _ _ _ _ _ _ is (λ u. (λ x. x, λ x. x)) (both units) (h.1 k d within);
    },
    λ h. (
      λ m. h.apart (m.0, (is m.0).0 m.1, m.2),
      λ k d within. allows_same _ _ _ _ _ _ _ (λ u. iff_back _ _ (is u)) (λ u. (λ x. x, λ x. x)) (λ u. iff_back _ _ (both units u)) (h.allowed k d within),
    ),
  )

-- ---- all cycles

module _ (statements : List (Statement ℕ)) (source add : List (Pair ℕ)) where
  result : (row : UsedRow) → IsRowOf add row → (unit : ℕ) → (Holds source row.cycle unit ⊎ HasUnit row.units unit) ↔ Holds (source ++ add) row.cycle unit
  result row is unit = both_units source add row.cycle row.units is.units unit

  -- where pairs fit, the units of each of their cycles do
  pub row_of_fitting : (row : UsedRow) → IsRowOf add row → Fits statements source add 0 → FitsRow statements source row.cycle row.units
  row_of_fitting row is h = record {
    apart = λ m. grids_apart statements source add h (record { unit = m.0; cycle = row.cycle }, m.1, (is.units m.0).0 m.2);
    allowed = λ k d within. allows_same _ _ _ _ _ _ _ (λ u. (λ x. x, λ x. x)) (λ u. iff_back _ _ (is.units u)) (λ u. iff_back _ _ (result row is u)) ((grids_allowed statements source add h k d within).at row.cycle);
  }

  -- and where the units of each cycle fit a source that breaks no exclusion, all pairs do
  pub fits_of_rows : (rows : List UsedRow) → IsUnbroken statements source → AreRowsOf add rows → All (λ row. FitsRow statements source row.cycle row.units) rows → Fits statements source add 0
  fits_of_rows rows unbroken are each = fits_grids statements source add
      (λ m.
      let (k, row, within, at, meets) = (meets_by_rows source add rows are).1 m in
      let fit = All-contains (λ (r : UsedRow). FitsRow statements source r.cycle r.units) rows row each (k, within, at) in
      fit.apart meets)
      (λ i s low. allows_used _ source add rows (λ b. unbroken.excluded _ (Contains-get_or statements i s low) b.0 b.1.0 b.1.1 b.1.2) are
      (λ j d inside. allows_same _ _ _ _ _ _ _ (λ u. (λ x. x, λ x. x)) (are.each j d inside).units (result (get_or rows j d) (are.each j d inside)) ((each j d inside).allowed i s low)))

  -- the units that are added in a cycle fit, and so do the pairs of that cycle
  pub fits_at : (cycle units : ℕ) → ((unit : ℕ) → HasUnit units unit ↔ Holds add cycle unit) → FitsRow statements source cycle units → FitsAt statements source add cycle
  fits_at cycle units is h = record {
    apart = λ unit there here. h.apart (unit, there, (is unit).1 here);
    allowed = λ k d within. allows_same _ _ _ _ _ _ _ (λ u. (λ x. x, λ x. x)) is (both_units source add cycle units is) (h.allowed k d within);
  }

  -- and where pairs fit, the units of each cycle do
  pub row_of_cycle : (cycle units : ℕ) → ((unit : ℕ) → HasUnit units unit ↔ Holds add cycle unit) → Fits statements source add 0 → FitsRow statements source cycle units
  row_of_cycle cycle units is h = row_of_fitting (record { cycle = cycle; units = units }) (record { units = is }) h

  -- where the pairs of each cycle fit a source that breaks no exclusion, all pairs do
  pub fits_of_cycles : (end : ℕ) → IsUnbroken statements source → ((unit cycle : ℕ) → Holds add cycle unit → cycle < end) → ((cycle : ℕ) → cycle < end → FitsAt statements source add cycle) → Fits statements source add 0
  fits_of_cycles end unbroken above each = fits_grids statements source add
      (λ m. let (p, there, here) = m in (each p.cycle (above p.unit p.cycle here)).apart p.unit there here)
      (λ i s low. record {
        at = λ cycle. ⊎_elim
            (λ (before : cycle < end). (each cycle before).allowed i s low)
            (λ (past : end ≤ cycle). allows_untriggered _ source add cycle (λ b. unbroken.excluded _ (Contains-get_or statements i s low) b.0 b.1.0 b.1.1 b.1.2)
            (λ unit _ held. let lt = above unit cycle held in omega (arith, lt, past)))
            (cases_lt cycle end);
      })
