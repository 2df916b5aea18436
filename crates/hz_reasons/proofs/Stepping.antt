-- Grids of which some are changed and the others stay.
use Rattle.std.proofs.Common.{◌≡◌, ◌≢◌, ℕ, ◌+◌, ◌-◌, ◌<◌, ◌≤◌, ⊎_elim, List, length, get_or, Contains, sym, ◌∙◌, subst, arith, refl}
use Rattle.std.specs.Prelude.{slice_set}
use Rattle.std.proofs.lemmas.Bool.{cases_lt}
use Rattle.std.proofs.lemmas.List.{get_or-set_same, get_or-set_other, length-set}
use Rattle.hz_base_model.specs.Pairs.{Pair, later}
use Rattle.hz_grid.specs.Grids.{Meets, IsUnion, IsAdvanced}
use Rattle.hz_reasons.specs.Calendars.{at, AreApart, AreUnited, IsLaterBy, AreLaterBy, IsMovedUpTo, IsUnitedUpTo}
use Rattle.hz_reasons.proofs.Reading.{read_at}

abbrev Grids : Type 0
Grids = List (List (Pair ℕ))

-- one more grid is moved
pub moved_more : (n i : ℕ) (old new : Grids) (item grid : List (Pair ℕ)) → IsMovedUpTo n i old new → i < length new → item ≡ get_or new i item → IsLaterBy n item grid → IsMovedUpTo n (i + 1) old (slice_set new i grid)
moved_more n i old new item grid h lt is later_by = record {
  each = length-set new i grid ∙ h.each;
  done = λ a low. ⊎_elim (below a) (λ (over : i ≤ a). let e : a ≡ i = omega arith in subst (λ (b : ℕ). IsLaterBy n (at old b) (at (slice_set new i grid) b)) (sym e) here) (cases_lt a i);
  left = λ a high. let ne : a ≢ i = omega arith in get_or-set_other new i a grid _ ne ∙ h.left a (omega arith);
}
  where
    below : (a : ℕ) → a < i → IsLaterBy n (at old a) (at (slice_set new i grid) a)
    below a low =
        let ne : a ≢ i = omega arith in
        subst (λ (g : List (Pair ℕ)). IsLaterBy n (at old a) g) (sym (get_or-set_other new i a grid _ ne)) (h.done a low)

    here : IsLaterBy n (at old i) (at (slice_set new i grid) i)
    here =
        let there : item ≡ at old i = read_at new i item is lt ∙ h.left i (omega arith) in
        subst (λ (g : List (Pair ℕ)). IsLaterBy n (at old i) g) (sym (get_or-set_same new i grid _ lt)) (subst (λ (g : List (Pair ℕ)). IsLaterBy n g grid) there later_by)

pub moved_all : (n i : ℕ) (old new : Grids) → IsMovedUpTo n i old new → length new ≤ i → AreLaterBy n old new
moved_all n i old new h all = let each = h.each in record { each = h.each; moved = λ a low. h.done a (omega arith) }

-- one more part is added
pub united_more : (i : ℕ) (old parts new : Grids) (item part grid : List (Pair ℕ)) → IsUnitedUpTo i old parts new → i < length new → i < length parts → item ≡ get_or new i item → part ≡ get_or parts i part → IsUnion item part grid → IsUnitedUpTo (i + 1) old parts (slice_set new i grid)
united_more i old parts new item part grid h lt lower is there union = record {
  each = length-set new i grid ∙ h.each;
  done = λ a low. ⊎_elim (below a) (λ (over : i ≤ a). let e : a ≡ i = omega arith in subst (λ (b : ℕ). IsUnion (at old b) (at parts b) (at (slice_set new i grid) b)) (sym e) here) (cases_lt a i);
  left = λ a high. let ne : a ≢ i = omega arith in get_or-set_other new i a grid _ ne ∙ h.left a (omega arith);
}
  where
    below : (a : ℕ) → a < i → IsUnion (at old a) (at parts a) (at (slice_set new i grid) a)
    below a low =
        let ne : a ≢ i = omega arith in
        subst (λ (g : List (Pair ℕ)). IsUnion (at old a) (at parts a) g) (sym (get_or-set_other new i a grid _ ne)) (h.done a low)

    here : IsUnion (at old i) (at parts i) (at (slice_set new i grid) i)
    here =
        let first : item ≡ at old i = read_at new i item is lt ∙ h.left i (omega arith) in
        subst (λ (g : List (Pair ℕ)). IsUnion (at old i) (at parts i) g) (sym (get_or-set_same new i grid _ lt))
        (subst (λ (g : List (Pair ℕ)). IsUnion g (at parts i) grid) first (subst (λ (q : List (Pair ℕ)). IsUnion item q grid) (read_at parts i part there lower) union))

pub united_all : (i : ℕ) (old parts new : Grids) → IsUnitedUpTo i old parts new → length old ≤ i → AreUnited old parts new
united_all i old parts new h all = λ a low. h.done a (omega arith)

-- what is not added yet is apart
pub apart_read : (i : ℕ) (old parts new : Grids) (item part : List (Pair ℕ)) → IsUnitedUpTo i old parts new → AreApart old parts → i < length new → i < length parts → item ≡ get_or new i item → part ≡ get_or parts i part → Meets item part → ⊥
apart_read i old parts new item part h apart lt lower is there meets =
    let each = h.each in
    let first : item ≡ at old i = read_at new i item is lt ∙ h.left i (omega arith) in
    apart i (omega arith) (subst (λ (g : List (Pair ℕ)). Meets g (at parts i)) first (subst (λ (q : List (Pair ℕ)). Meets item q) (read_at parts i part there lower) meets))

-- a cycle more
pub later_more : (n : ℕ) (old middle new : List (Pair ℕ)) → IsLaterBy n old middle → IsAdvanced middle new → IsLaterBy (n + 1) old new
later_more n old middle new h step p =
    let time : n + (1 + p.cycle) ≡ n + 1 + p.cycle = omega arith in
    let at_time = λ (c : ℕ). Contains old (record { unit = p.unit; cycle = c }) in (
      λ x. subst at_time time ((h (later 1 p)).0 ((step p).0 x)),
      λ x. (step p).1 ((h (later 1 p)).1 (subst at_time (sym time) x)),
    )

-- a grid that has nothing left has nothing later
pub later_none : (i n : ℕ) (old new : List (Pair ℕ)) → IsLaterBy i old new → i ≤ n → ((unit cycle : ℕ) → Contains new (record { unit = unit; cycle = cycle }) → ⊥) → IsLaterBy n old new
later_none i n old new h le none p =
    let time : n + p.cycle ≡ i + (n - i + p.cycle) = omega arith in (
      λ x. absurd (none p.unit p.cycle x),
      λ x. absurd (none p.unit (n - i + p.cycle) ((h (record { unit = p.unit; cycle = n - i + p.cycle })).1 (subst (λ (c : ℕ). Contains old (record { unit = p.unit; cycle = c })) time x))),
    )

-- no cycle, and a cycle more in each automaton
pub moves_itself : (old : Grids) → AreLaterBy 0 old old
moves_itself old = record {
  each = refl;
  moved = λ a low p.
      let time : 0 + p.cycle ≡ p.cycle = omega arith in
      let at_time = λ (c : ℕ). Contains (at old a) (record { unit = p.unit; cycle = c }) in
      (λ h. subst at_time (sym time) h, λ h. subst at_time time h);
}

pub moves_more : (n : ℕ) (old middle new : Grids) → AreLaterBy n old middle → AreLaterBy 1 middle new → AreLaterBy (n + 1) old new
moves_more n old middle new first second =
    let each = first.each in
    record {
      each = second.each ∙ first.each;
      moved = λ a low. later_more n (at old a) (at middle a) (at new a) (first.moved a low) (second.moved a (omega arith));
    }
