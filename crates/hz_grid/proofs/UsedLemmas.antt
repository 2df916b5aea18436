-- Grids by the cycles in which they have a unit.
use Rattle.std.proofs.Common.{◌≡◌, ℕ, ◌+◌, ◌<◌, ◌≤◌, ◌↔◌, ◌⊎◌, inl, inr, ⊎_elim, Bool, true, false, List, [], ◌∷◌, ◌++◌, All, Contains, IsTrue, refl, sym, ap, ◌∙◌, subst, arith, eq-eqb}
use Rattle.std.specs.Prelude.{◌||◌}
use Rattle.std.specs.List.{Any, list_any}
use Rattle.std.proofs.lemmas.Bool.{cases_lt, eqb-true}
use Rattle.std.proofs.lemmas.Bool.Decides.{same_from_decides}
use Rattle.std.proofs.lemmas.List.Elements.{All-contains, All-push, All-nil}
use Rattle.std.proofs.lemmas.List.Folds.{Any-from_list_any, list_any-append}
use Rattle.hz_base_model.specs.Pairs.{Pair}
use Rattle.hz_grid.specs.declared.usage.UsedRow.{UsedRow}
use Rattle.hz_grid.specs.Rows.{has_unit, HasUnit, IsWithin}
use Rattle.hz_grid.specs.Grids.{Holds, Meets}
use Rattle.hz_grid.specs.Hashes.{has_pair}
use Rattle.hz_grid.specs.Used.{MeetsIn, is_at, IsRowOf, AreRowsOf, HasUnitsOf, IsUsage, KeepsUsed}
use Rattle.hz_grid.proofs.RowsAgain.{has_pair-Holds}

-- ---- a row that has a cycle

pub row_at_cycle : (cycle : ℕ) (rows : List UsedRow) → IsTrue (list_any (is_at cycle) rows) → (row : UsedRow) × Contains rows row × (row.cycle ≡ cycle)
row_at_cycle cycle rows t =
    let found = Any-from_list_any (is_at cycle) rows t in
    (found.1, (found.0, found.2, found.3), eqb-true _ _ found.4)

-- ---- rows of the first cycles

pub record UsedBefore (pairs : List (Pair ℕ)) (rows : List UsedRow) (cycles : ℕ) : Type 0 where
  pub each : All (IsRowOf pairs) rows
  pub before : (unit cycle : ℕ) → cycle < cycles → Holds pairs unit cycle → IsTrue (list_any (is_at cycle) rows)

pub none_before : (pairs : List (Pair ℕ)) → UsedBefore pairs [] 0
none_before pairs = record { each = All-nil (IsRowOf pairs); before = λ unit cycle lt h. absurd (omega (arith, lt)) }

left_true : (a b : Bool) → IsTrue a → IsTrue (a || b)
left_true true b t = refl
left_true false b t = absurd (cc)

right_true : (a b : Bool) → IsTrue b → IsTrue (a || b)
right_true true b t = refl
right_true false b t = t

pub used_more : (pairs : List (Pair ℕ)) (rows rows' : List UsedRow) (cycle units : ℕ) → UsedBefore pairs rows cycle → ((unit : ℕ) → HasUnit units unit ↔ Holds pairs unit cycle) → KeepsUsed cycle units rows rows' → UsedBefore pairs rows' (cycle + 1)
used_more pairs rows rows' cycle units used are keeps = ⊎_elim
    (λ (e : rows' ≡ rows ++ record { cycle = cycle; units = units } ∷ []).
    let here : UsedRow = record { cycle = cycle; units = units } in
    let parted : (c : ℕ) → list_any (is_at c) rows' ≡ (list_any (is_at c) rows || list_any (is_at c) (here ∷ [])) = λ c. ap (list_any (is_at c)) e ∙ list_any-append (is_at c) rows (here ∷ []) in
    record {
      each = subst (All (IsRowOf pairs)) (sym e) (All-push (IsRowOf pairs) rows here used.each (record { units = are }));
      before = λ unit c lt h. subst IsTrue (sym (parted c)) (⊎_elim
          (λ (less : c < cycle). left_true _ _ (used.before unit c less h))
          (λ (same : cycle ≤ c). right_true (list_any (is_at c) rows) _ (left_true _ _ (eq-eqb cycle c (omega (arith, lt, same)))))
          (cases_lt c cycle));
    })
    (λ (same : (rows' ≡ rows) × ((unit : ℕ) → HasUnit units unit → ⊥)). record {
      each = subst (All (IsRowOf pairs)) (sym same.0) used.each;
      before = λ unit c lt h. ⊎_elim
          (λ (less : c < cycle). subst (λ (rs : List UsedRow). IsTrue (list_any (is_at c) rs)) (sym same.0) (used.before unit c less h))
          (λ (past : cycle ≤ c). let at : c ≡ cycle = omega (arith, lt, past) in absurd (same.1 unit ((are unit).1 (subst (Holds pairs unit) at h))))
          (cases_lt c cycle);
    })
    keeps.kept

pub all_used : (pairs : List (Pair ℕ)) (rows : List UsedRow) (cycles : ℕ) → UsedBefore pairs rows cycles → ((unit cycle : ℕ) → Holds pairs unit cycle → cycle < cycles) → AreRowsOf pairs rows
all_used pairs rows cycles used above = record { each = used.each; whole = λ unit cycle h. used.before unit cycle (above unit cycle h) h }

-- ---- by tests

pub usage_of : (pairs : List (Pair ℕ)) (rows : List UsedRow) (all : ℕ) → AreRowsOf pairs rows → All (λ row. IsWithin row.units all) rows → IsUsage pairs rows all
usage_of pairs rows all are within = record {
  each = λ k d low unit. same_from_decides _ _ ((are.each k d low).units unit) (has_pair-Holds pairs _ unit);
  whole = λ unit cycle t. are.whole unit cycle ((has_pair-Holds pairs cycle unit).0 t);
  units = λ unit cycle t.
      let h = (has_pair-Holds pairs cycle unit).0 t in
      let (row, there, at) = row_at_cycle cycle rows (are.whole unit cycle h) in
      let is = All-contains (IsRowOf pairs) rows row are.each there in
      All-contains (λ (r : UsedRow). IsWithin r.units all) rows row within there unit ((is.units unit).1 (rw at h));
}

pub rows_of_usage : (pairs : List (Pair ℕ)) (rows : List UsedRow) (all : ℕ) → IsUsage pairs rows all → AreRowsOf pairs rows
rows_of_usage pairs rows all is = record {
  each = λ k d low. record {
    units = λ unit.
        let held = has_pair-Holds pairs _ unit in
        let same = is.each k d low unit in
        (λ h. held.0 (subst IsTrue same h), λ h. subst IsTrue (sym same) (held.1 h));
  };
  whole = λ unit cycle h. is.whole unit cycle ((has_pair-Holds pairs cycle unit).1 h);
}

pub units_of_usage : (pairs : List (Pair ℕ)) (rows : List UsedRow) (all : ℕ) → IsUsage pairs rows all → HasUnitsOf pairs all
units_of_usage pairs rows all is = record { units = λ unit cycle h. is.units unit cycle ((has_pair-Holds pairs cycle unit).1 h) }

-- ---- where both have a pair

pub meets_by_rows : (source pairs : List (Pair ℕ)) (rows : List UsedRow) → AreRowsOf pairs rows → Any (λ row. MeetsIn source row.cycle row.units) rows ↔ Meets source pairs
meets_by_rows source pairs rows are = (
  λ h.
      let (k, row, within, is, (unit, held, has)) = h in
      (record { unit = unit; cycle = row.cycle }, held, ((All-contains (IsRowOf pairs) rows row are.each (k, within, is)).units unit).0 has),
  λ m.
      let (p, there, here) = m in
      let (row, (k, within, is), at) = row_at_cycle p.cycle rows (are.whole p.unit p.cycle here) in
      let of = All-contains (IsRowOf pairs) rows row are.each (k, within, is) in
      (k, row, within, is, (p.unit, rw at there, (of.units p.unit).1 (rw at here))),
)
