-- What the calls do to the rows, and what that says of the pairs.
use Rattle.std.proofs.Common.{◌≡◌, ℕ, ◌+◌, ◌-◌, ◌<◌, ◌≤◌, max, min, ◌⊎◌, inl, inr, ⊎_elim, ◌↔◌, List, [], ◌∷◌, ◌++◌, length, get_or, set, take, drop, refl, sym, ap, ◌∙◌, arith}
use Rattle.std.proofs.lemmas.Bool.{cases_lt, cases_eq}
use Rattle.std.proofs.lemmas.List.{length-drop, get_or-drop, get_or_past, get_or_default, get_or-set_same, get_or-set_other, take_more, length_push, get_or_push, get_or_append_left}
use Rattle.std.proofs.lemmas.List.Elements.{Contains-append_left, Contains-push, Contains-push_cases}
use Rattle.hz_grid.specs.Rows.{HasUnit, RowsMeet}
use Rattle.hz_grid.specs.Grids.{Holds, HoldsJust, Meets, IsUnion, IsAdvanced}
use Rattle.hz_grid.specs.Stored.{IsSet, pairs_from, IsRows, HasJust, HasSameUnits, GainsUnit, ShareUnit, IsJoined}
use Rattle.hz_grid.proofs.Units.{HasUnit-zero, some_unit}
use Rattle.hz_base_model.proofs.Elements.{Contains-nil}
use Rattle.hz_grid.proofs.Pairs.{Holds-rows, row_below}

-- ---- the rows are those of a grid

pub IsRows-nil : (rows : List ℕ) → rows ≡ [] → IsRows rows
IsRows-nil rows e = record {
  units = λ unit cycle h. absurd (HasUnit-zero unit (rw e at h));
  cycles = let n = ap length e in omega arith;
  trimmed = λ some. let n = ap length e in omega arith;
}

pub IsSet-drop : (rows : List ℕ) (unit cycle : ℕ) → IsSet (drop 1 rows) unit cycle ↔ IsSet rows unit (1 + cycle)
IsSet-drop rows unit cycle =
    let e = get_or-drop 1 rows cycle 0 in
    (λ h. rw e at h, λ h. rw e h)

pub IsRows-drop : (rows : List ℕ) → IsRows rows → IsRows (drop 1 rows)
IsRows-drop rows is =
    let long = length-drop 1 rows in
    record {
      units = λ unit cycle h. is.units unit (1 + cycle) ((IsSet-drop rows unit cycle).0 h);
      cycles = omega (arith, is.cycles);
      trimmed = λ some none.
          let last : 1 + (length (drop 1 rows) - 1) ≡ length rows - 1 = omega arith in
          is.trimmed (omega arith) (λ unit h. none unit ((IsSet-drop rows unit (length (drop 1 rows) - 1)).1 (rw last h)));
    }

pub IsRows-gains : (unit cycle : ℕ) (old rows : List ℕ) → IsRows old → unit < 256 → cycle < 512 → length rows ≡ max (length old) (cycle + 1) → GainsUnit unit cycle old rows → IsRows rows
IsRows-gains unit cycle old rows is small early long gains = record {
  units = λ other place h. ⊎_elim
      (is.units other place)
      (λ (same : (other ≡ unit) × (place ≡ cycle)). omega (arith, same.0))
      ((gains other place).0 h);
  cycles = omega (arith, is.cycles);
  trimmed = λ some none. ⊎_elim
      (λ (lt : cycle + 1 < length old).
      let last : length rows - 1 ≡ length old - 1 = omega arith in
      is.trimmed (omega arith) (λ other h. none other (rw last ((gains other (length old - 1)).1 (inl h)))))
      (λ (le : length old ≤ cycle + 1).
      let last : length rows - 1 ≡ cycle = omega arith in
      none unit (rw last ((gains unit cycle).1 (inr (refl, refl)))))
      (cases_lt (cycle + 1) (length old));
}

-- ---- what the rows' units say of the pairs

pub HoldsJust-rows : (pairs : List (ℕ × ℕ)) (rows : List ℕ) → IsRows rows → HasJust pairs rows → HoldsJust pairs (pairs_from 0 rows)
HoldsJust-rows pairs rows is just unit cycle =
    let holds = Holds-rows rows is unit cycle in
    (λ h. (just unit cycle).0 (holds.0 h), λ h. holds.1 ((just unit cycle).1 h))

pub Meets-rows : (first second : List ℕ) → IsRows first → IsRows second → ShareUnit first second ↔ Meets (pairs_from 0 first) (pairs_from 0 second)
Meets-rows first second is_first is_second = (
  λ shared. (record { unit = shared.0; cycle = shared.1 }, (Holds-rows first is_first shared.0 shared.1).1 shared.2, (Holds-rows second is_second shared.0 shared.1).1 shared.3),
  λ meets. (meets.0.unit, meets.0.cycle, (Holds-rows first is_first meets.0.unit meets.0.cycle).0 meets.1, (Holds-rows second is_second meets.0.unit meets.0.cycle).0 meets.2),
)

pub IsUnion-rows : (first second rows : List ℕ) → IsRows first → IsRows second → IsRows rows → IsJoined first second rows → IsUnion (pairs_from 0 first) (pairs_from 0 second) (pairs_from 0 rows)
IsUnion-rows first second rows is_first is_second is joined p =
    let holds = Holds-rows rows is p.unit p.cycle in
    let in_first = Holds-rows first is_first p.unit p.cycle in
    let in_second = Holds-rows second is_second p.unit p.cycle in (
      λ h. ⊎_elim (λ k. inl (in_first.1 k)) (λ k. inr (in_second.1 k)) ((joined p.unit p.cycle).0 (holds.0 h)),
      λ h. holds.1 ((joined p.unit p.cycle).1 (⊎_elim (λ k. inl (in_first.0 k)) (λ k. inr (in_second.0 k)) h)),
    )

pub IsAdvanced-rows : (rows : List ℕ) → IsRows rows → IsAdvanced (pairs_from 0 rows) (pairs_from 0 (drop 1 rows))
IsAdvanced-rows rows is p =
    let old = Holds-rows rows is p.unit (1 + p.cycle) in
    let new = Holds-rows (drop 1 rows) (IsRows-drop rows is) p.unit p.cycle in
    let step = IsSet-drop rows p.unit p.cycle in
    (λ h. old.1 (step.0 (new.0 h)), λ h. new.1 (step.1 (old.0 h)))

-- ---- the loops

-- a row without units is no row
pub HasSameUnits-push : (rows : List ℕ) (row : ℕ) → ((unit : ℕ) → ¬ HasUnit row unit) → HasSameUnits rows (rows ++ row ∷ [])
HasSameUnits-push rows row none unit cycle =
    ⊎_elim
    (λ (lt : cycle < length rows). let e = get_or_append_left rows (row ∷ []) 0 cycle lt in (λ h. rw e at h, λ h. rw e h))
    (λ (le : length rows ≤ cycle).
    let past : IsSet rows unit cycle → ⊥ = λ h. HasUnit-zero unit (rw (get_or_past rows cycle 0 le) at h) in
    let long = length_push rows row in (
      λ h. absurd (⊎_elim
          (λ (e : length rows ≡ cycle). none unit (rw (get_or_push rows row 0 cycle e) at h))
          (λ (n : length rows ≡ cycle → ⊥). HasUnit-zero unit (rw (get_or_past (rows ++ row ∷ []) cycle 0 (omega arith)) at h))
          (cases_eq (length rows) cycle)),
      λ h. absurd (past h),
    ))
    (cases_lt cycle (length rows))

-- a row that gains a unit
pub GainsUnit-set : (rows : List ℕ) (unit cycle row : ℕ) → cycle < length rows → ((other : ℕ) → HasUnit row other ↔ (HasUnit (get_or rows cycle 0) other ⊎ (other ≡ unit))) → GainsUnit unit cycle rows (set rows cycle row)
GainsUnit-set rows unit cycle row within gains other place =
    ⊎_elim
    (λ (e : place ≡ cycle).
    let at_cycle : IsSet (set rows cycle row) other cycle ↔ (IsSet rows other cycle ⊎ ((other ≡ unit) × (cycle ≡ cycle))) =
    let same = get_or-set_same rows cycle row 0 within in (
      λ h. ⊎_elim (λ k. inl k) (λ (u : other ≡ unit). inr (u, refl)) ((gains other).0 (rw same at h)),
      λ h. rw same ((gains other).1 (⊎_elim (λ k. inl k) (λ (both : (other ≡ unit) × (cycle ≡ cycle)). inr both.0) h)),
    ) in
    rw e at_cycle)
    (λ (n : place ≡ cycle → ⊥).
    let kept = get_or-set_other rows cycle place row 0 n in (
      λ h. inl (rw kept at h),
      λ h. ⊎_elim (λ k. rw kept k) (λ (both : (other ≡ unit) × (place ≡ cycle)). absurd (n both.1)) h,
    ))
    (cases_eq place cycle)

pub HasJust-none : (rows : List ℕ) → rows ≡ [] → HasJust [] rows
HasJust-none rows e unit cycle = (λ h. absurd (HasUnit-zero unit (rw e at h)), λ h. absurd (Contains-nil _ h))

pub HasJust-more : (pairs : List (ℕ × ℕ)) (k : ℕ) (d : ℕ × ℕ) (old new : List ℕ) → k < length pairs → HasJust (take k pairs) old → GainsUnit (get_or pairs k d).0 (get_or pairs k d).1 old new → HasJust (take (k + 1) pairs) new
HasJust-more pairs k d old new within just gains unit cycle =
    let pair = get_or pairs k d in
    let more : take (k + 1) pairs ≡ take k pairs ++ pair ∷ [] = take_more pairs k d within in (
      λ h. rw more (⊎_elim
          (λ (before : IsSet old unit cycle). Contains-append_left (take k pairs) (pair ∷ []) _ ((just unit cycle).0 before))
          (λ (both : (unit ≡ pair.0) × (cycle ≡ pair.1)). rw (both.0, both.1) (Contains-push (take k pairs) pair))
          ((gains unit cycle).0 h)),
      λ h. (gains unit cycle).1 (⊎_elim
          (λ m. inl ((just unit cycle).1 m))
          (λ (e : pair ≡ (unit, cycle)). inr (sym (ap (λ (q : ℕ × ℕ). q.0) e), sym (ap (λ (q : ℕ × ℕ). q.1) e)))
          (Contains-push_cases (take k pairs) pair (unit, cycle) (rw more at h))),
    )

pub GainsUnit-lengthened : (unit cycle : ℕ) (old rows new : List ℕ) → HasSameUnits old rows → GainsUnit unit cycle rows new → GainsUnit unit cycle old new
GainsUnit-lengthened unit cycle old rows new same gains other place =
    let before = same other place in
    let after = gains other place in (
      λ h. ⊎_elim (λ k. inl (before.0 k)) (λ (both : (other ≡ unit) × (place ≡ cycle)). inr both) (after.0 h),
      λ h. after.1 (⊎_elim (λ k. inl (before.1 k)) (λ (both : (other ≡ unit) × (place ≡ cycle)). inr both) h),
    )

-- past the last of the shorter rows
pub IsJoined-end : (longer shorter rows : List ℕ) (unit cycle : ℕ) → length shorter ≤ cycle → get_or rows cycle 0 ≡ get_or longer cycle 0 → IsSet rows unit cycle ↔ (IsSet longer unit cycle ⊎ IsSet shorter unit cycle)
IsJoined-end longer shorter rows unit cycle past e = (
  λ h. inl (rw e at h),
  λ h. ⊎_elim
      (λ (k : IsSet longer unit cycle). rw e k)
      (λ (k : IsSet shorter unit cycle). absurd (HasUnit-zero unit (rw (get_or_past shorter cycle 0 past) at k)))
      h,
)

-- no two rows meet, as far as both go
pub apart_from_rows : (first second : List ℕ) (n : ℕ) → n ≡ min (length first) (length second) → ((k : ℕ) → k < n → ¬ RowsMeet (get_or first k 0) (get_or second k 0)) → ¬ ShareUnit first second
apart_from_rows first second n e apart shared =
    let in_first = row_below first shared.0 shared.1 shared.2 in
    let in_second = row_below second shared.0 shared.1 shared.3 in
    apart shared.1 (omega arith) (shared.0, shared.2, shared.3)

-- ---- the greatest cycle, and one row

pub cycle_below_length : (rows : List ℕ) → IsRows rows → (unit cycle : ℕ) → Holds (pairs_from 0 rows) unit cycle → cycle < length rows
cycle_below_length rows is unit cycle h = row_below rows unit cycle ((Holds-rows rows is unit cycle).0 h)

pub Holds-last : (rows : List ℕ) → IsRows rows → 0 < length rows → (unit : ℕ) × Holds (pairs_from 0 rows) unit (length rows - 1)
Holds-last rows is some =
    let last = length rows - 1 in
    let row = get_or rows last 0 in
    let filled : 0 < row =
    ⊎_elim
    (λ (e : row ≡ 0). absurd (is.trimmed some (λ unit h. HasUnit-zero unit (rw e at h))))
    (λ (n : row ≡ 0 → ⊥). omega arith)
    (cases_eq row 0) in
    let unit = some_unit row filled in
    (unit.0, (Holds-rows rows is unit.0 last).1 unit.1)

pub HasUnit-row : (rows : List ℕ) → IsRows rows → (cycle none row unit : ℕ) → ((other : ℕ) → ¬ HasUnit none other) → row ≡ get_or rows cycle none → HasUnit row unit ↔ Holds (pairs_from 0 rows) unit cycle
HasUnit-row rows is cycle none row unit empty e =
    let holds = Holds-rows rows is unit cycle in
    ⊎_elim
    (λ (within : cycle < length rows).
    let same = e ∙ get_or_default rows cycle none 0 within in
    (λ h. holds.1 (rw same at h), λ h. rw same (holds.0 h)))
    (λ (past : length rows ≤ cycle).
    let same = e ∙ get_or_past rows cycle none past in (
      λ h. absurd (empty unit (rw same at h)),
      λ h. absurd (HasUnit-zero unit (rw (get_or_past rows cycle 0 past) at (holds.0 h))),
    ))
    (cases_lt cycle (length rows))

-- the rows of both are those of a grid
pub IsRows-joined : (first second rows : List ℕ) → IsRows first → IsRows second → length rows ≡ max (length first) (length second) → IsJoined first second rows → IsRows rows
IsRows-joined first second rows is other long joined = record {
  units = λ unit cycle h. ⊎_elim (is.units unit cycle) (other.units unit cycle) ((joined unit cycle).0 h);
  cycles = omega (arith, is.cycles, other.cycles);
  trimmed = λ some none. ⊎_elim
      (λ (lt : length first < length second).
      let last : length rows - 1 ≡ length second - 1 = omega arith in
      other.trimmed (omega arith) (λ unit h. none unit (rw last ((joined unit (length second - 1)).1 (inr h)))))
      (λ (le : length second ≤ length first).
      let last : length rows - 1 ≡ length first - 1 = omega arith in
      is.trimmed (omega arith) (λ unit h. none unit (rw last ((joined unit (length first - 1)).1 (inl h)))))
      (cases_lt (length first) (length second));
}

-- the same units, and those of others
pub IsJoined-after : (first second middle rows : List ℕ) → HasSameUnits first middle → IsJoined middle second rows → IsJoined first second rows
IsJoined-after first second middle rows same joined unit cycle = (
  λ h. ⊎_elim (λ (k : IsSet middle unit cycle). inl ((same unit cycle).0 k)) inr ((joined unit cycle).0 h),
  ⊎_elim
      (λ (k : IsSet first unit cycle). (joined unit cycle).1 (inl ((same unit cycle).1 k)))
      (λ (k : IsSet second unit cycle). (joined unit cycle).1 (inr k)),
)
