-- Heights that are high enough, and the least interval that leaves room for them.
use Rattle.std.proofs.Common.{◌≡◌, ℕ, zero, suc, ◌+◌, ◌*◌, ◌-◌, ◌/◌, ◌<◌, ◌≤◌, ⊎_elim, List, [], ◌∷◌, length, take, get_or, sum_by, All, Contains, Option, Some, None, ap, subst, arith}
use Rattle.std.specs.Prelude.{slice_index}
use Rattle.std.proofs.lemmas.Bool.{cases_lt}
use Rattle.std.proofs.lemmas.List.{get_or_past, length-map}
use Rattle.std.proofs.lemmas.List.Elements.{All-nil, All-cons, All-head, All-tail, All-contains, Contains-get_or}
use Rattle.std.proofs.lemmas.Nat.{div-add-mod'}
use Rattle.hz_pipeline_model.specs.Tables.Tables.{Table, row_of, entry}
use Rattle.hz_pipeline_model.specs.Tables.Machines.{Part, Machine, no_part, part_at, column_of, advance_of}
use Rattle.hz_tables.specs.declared.machine.Machine as declared
use Rattle.hz_tables.specs.Machines.{machine_of}
use Rattle.hz_tables.specs.Parts.{part_of}
use Rattle.hz_measure_model.specs.Bounds.Paths.{greatest}
use Rattle.hz_measure_model.proofs.Bounds.Numbers.{greatest_above}
use Rattle.hz_measure_model.specs.Kernels.Heights.{AreHeights}
use Rattle.hz_measure_model.proofs.Kernels.DepLaws.{more_copies}
use Rattle.hz_modulo.specs.Heights.{IsRaised, IsLowered, AreHighTo, AreHigh, IsLow}

-- a state with an entry is one of the table
entry_low : (table : Table) (state column next : ℕ) → entry table state column ≡ Some next → state < length table
entry_low table state column next e = ⊎_elim
    (λ (lt : state < length table). lt)
    (λ (le : length table ≤ state).
    let none : row_of table state ≡ [] = get_or_past table state [] le in
    let gone : entry table state column ≡ None = ap (λ (row : List (Option ℕ)). get_or row column None) none in
    absurd (cc))
    (cases_lt state (length table))

-- no number of a list is above the greatest
index_below : (ns : List ℕ) (i : ℕ) → slice_index ns i ≤ greatest ns
index_below ns i = ⊎_elim
    (λ (lt : i < length ns). greatest_above ns (get_or ns i 0) (Contains-get_or ns i 0 lt))
    (λ (le : length ns ≤ i). let none = get_or_past ns i 0 le in omega (arith, none))
    (cases_lt i (length ns))

-- heights that are high enough for some classes are so for classes among them
pub are_heights : (part : Part) (classes once weights : List ℕ) (share : ℕ) (heights : List ℕ) → All (λ c. Contains once c) classes → AreHigh part once weights share heights → AreHeights part classes (slice_index weights) share (slice_index heights)
are_heights part classes once weights share heights among high = record {
  raised = λ state next class there e.
      let raises = high.raised state (entry_low part.rows state (column_of part class) next e) in
      let one = All-contains (IsRaised part weights heights state) once class raises (All-contains (λ c. Contains once c) classes class among there) in
      one.up next e;
  lowered = λ state next e. let one = high.lowered state (entry_low part.rows state (advance_of part) next e) in one.down next e;
  top = greatest heights;
  below = index_below heights;
}

-- an interval below the least has no room
pub no_less : (sum share interval : ℕ) → 0 < sum → sum ≤ share * interval → (sum - 1) / share < interval
no_less sum share interval some room = ⊎_elim
    (λ (lt : (sum - 1) / share < interval). lt)
    (λ (le : interval ≤ (sum - 1) / share).
    let parts = div-add-mod' (sum - 1) share in
    let more = more_copies interval ((sum - 1) / share) share le in
    let same : interval * share ≡ share * interval = omega arith in
    absurd (omega (arith, parts, more, same, some, room)))
    (cases_lt ((sum - 1) / share) interval)

-- the least interval by heights is low
pub is_low : (m : Machine) (part : Part) (classes weights : List ℕ) (share : ℕ) (heights : List ℕ) (sum least : ℕ) → Contains m.parts part → AreHeights part classes (slice_index weights) share (slice_index heights) → sum ≤ sum_by (slice_index weights) classes
    → ((interval : ℕ) → sum ≤ share * interval → least ≤ interval) → IsLow m classes least
is_low m part classes weights share heights sum least there are low from = record {
  low = λ interval leaves. let room = leaves.room part there (slice_index weights) share (slice_index heights) are in from interval (omega (arith, low, room));
}

pub none_low : (m : Machine) (classes : List ℕ) → IsLow m classes 0
none_low m classes = record { low = λ interval leaves. omega arith }

-- ---- lists, item by item

pub all_more : {X : Type 0} (P : X → Type 0) (xs : List X) (i : ℕ) (x : X) → i < length xs → x ≡ get_or xs i x → All P (take i xs) → P x → All P (take (i + 1) xs)
all_more P [] i x lt is all here = absurd (omega (arith, lt))
all_more {X} P (y ∷ xs) zero x lt is all here = All-cons P y [] (subst P is here) (All-nil P)
all_more {X} P (y ∷ xs) (suc i) x lt is all here =
    subst (λ (n : ℕ). All P (take n (y ∷ xs))) (let same : suc (i + 1) ≡ suc i + 1 = omega arith in same)
    (All-cons P y (take (i + 1) xs) (All-head P y (take i xs) all) (all_more P xs i x (omega (arith, lt)) is (All-tail P y (take i xs) all) here))

pub all_taken : {X : Type 0} (P : X → Type 0) (xs : List X) (n : ℕ) → length xs ≤ n → All P (take n xs) → All P xs
all_taken P [] n le all = All-nil P
all_taken P (x ∷ xs) zero le all = absurd (omega (arith, le))
all_taken P (x ∷ xs) (suc n) le all = All-cons P x xs (All-head P x (take n xs) all) (all_taken P xs n (omega (arith, le)) (All-tail P x (take n xs) all))

-- one state more is high enough
pub high_more : (part : Part) (classes weights : List ℕ) (share : ℕ) (heights : List ℕ) (state : ℕ) → AreHighTo part classes weights share heights state → All (IsRaised part weights heights state) classes → IsLowered part share heights state → AreHighTo part classes weights share heights (state + 1)
high_more part classes weights share heights state high raised lowered = record {
  raised = λ s lt. ⊎_elim
      (λ (less : s < state). high.raised s less)
      (λ (le : state ≤ s). subst (λ (n : ℕ). All (IsRaised part weights heights n) classes) (let is : state ≡ s = omega (arith, le, lt) in is) raised)
      (cases_lt s state);
  lowered = λ s lt. ⊎_elim
      (λ (less : s < state). high.lowered s less)
      (λ (le : state ≤ s). subst (IsLowered part share heights) (let is : state ≡ s = omega (arith, le, lt) in is) lowered)
      (cases_lt s state);
}

-- a part of a machine is there
pub part_there : (machine : declared.Machine) (p : ℕ) → p < length machine.parts.items → Contains (machine_of machine).parts (part_at (machine_of machine) p)
part_there machine p lt = let long = length-map machine.parts.items part_of in Contains-get_or (machine_of machine).parts p no_part (omega (arith, lt, long))
