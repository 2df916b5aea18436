-- The classes of a description, and the instructions that have them.
use Rattle.std.proofs.Common.{◌≡◌, ℕ, ◌+◌, ◌<◌, ◌≤◌, ◌==◌, Bool, true, false, cond, List, [], map, take, set, length, get_or, Contains, Option, sym, ap, ◌∙◌, subst, arith, refl}
use Rattle.std.specs.Prelude.{min, All, slice_index_or}
use Rattle.std.specs.Option.{option_map}
use Rattle.std.proofs.lemmas.Bool.{eqb-true, eqb-false}
use Rattle.std.proofs.lemmas.List.{get_or-map, length-map, length-set, map_more, get_or_default, get_or-set_same, get_or-set_other}
use Rattle.std.proofs.lemmas.List.Elements.{All-contains, Contains-get_or}
use Rattle.hz_base_model.specs.Pairs.{Pair}
use Rattle.hz_base_model.proofs.Elements.{Contains-from_map}
use Rattle.hz_measure_model.specs.Bounds.Loads.{Load, least, ways_in, ways_by, load_of}
use Rattle.hz_measure_model.specs.Bounds.Bounds.{UnitLoad}
use Rattle.hz_block_model.specs.Running.Limits.{instruction_limit}
use Rattle.hz_checked.specs.declared.checked.CheckedClass.{CheckedClass}
use Rattle.hz_checked.specs.Shape.{class_of}
use Rattle.hz_depend.specs.declared.parts.GraphInsn.{GraphInsn}
use Rattle.hz_description_model.specs.Check.CheckedParts.{ClassParts}
use Rattle.hz_bound.specs.declared.loads.Total.{Total}
use Rattle.hz_bound.specs.Ranges.{range_of, all_cycles}
use Rattle.hz_bound.specs.Shape.{lists_in}
use Rattle.hz_bound.specs.Sums.{occurs, times_at, AreTimes, no_total, total_at, with_times, AreJoined, AreTotals, IsTotal, load_by, shown}
use Rattle.hz_bound.proofs.SumLemmas.{occurs_append, total_none, total_more, total_load}

-- ---- how many instructions have a class

pub times_more : (insns : List GraphInsn) (i count : ℕ) (d : GraphInsn) (times : List ℕ) (t x : ℕ) → i < length insns → All (λ i. i.class < count) insns → t ≡ get_or times (get_or insns i d).class t → x ≡ min (t + 1) 4294967295
    → AreTimes (map (λ i. i.class) (take i insns)) count times → AreTimes (map (λ i. i.class) (take (i + 1) insns)) count (set times (get_or insns i d).class x)
times_more insns i count d times t x lt all read made are = record {
  long = length-set times class x ∙ are.long;
  each = λ k less. go k (class == k) refl (are.each k less) (ap (occurs k) (map_more (λ (i : GraphInsn). i.class) insns i d lt) ∙ occurs_append k (map (λ i. i.class) (take i insns)) class);
}
  where
    class : ℕ
    class = (get_or insns i d).class

    low : class < count
    low = All-contains (λ (i : GraphInsn). i.class < count) insns (get_or insns i d) all (Contains-get_or insns i d lt)

    inside : class < length times
    inside = let long = are.long in omega (arith, low, long)

    read_is : t ≡ times_at times class
    read_is = read ∙ get_or_default times class t 0 inside

    go : (k : ℕ) (b : Bool) → (class == k) ≡ b → times_at times k ≡ min (occurs k (map (λ i. i.class) (take i insns))) 4294967295 → occurs k (map (λ i. i.class) (take (i + 1) insns)) ≡ occurs k (map (λ i. i.class) (take i insns)) + cond (class == k) 1 0
        → times_at (set times class x) k ≡ min (occurs k (map (λ i. i.class) (take (i + 1) insns))) 4294967295
    go k true e before all =
        let same = eqb-true class k e in
        let new = subst (λ (j : ℕ). times_at (set times class x) j ≡ x) same (get_or-set_same times class x 0 inside) in
        let old = subst (λ (j : ℕ). t ≡ times_at times j) same read_is in
        let one = ap {B = ℕ} (λ (b : Bool). cond b 1 0) e in
        omega (arith, new, old, made, before, all, one)
    go k false e before all =
        let other = get_or-set_other times class k x 0 (λ (same : k ≡ class). eqb-false class k e (sym same)) in
        let none = ap {B = ℕ} (λ (b : Bool). cond b 1 0) e in
        omega (arith, other, before, all, none)

pub classes_inside : (n : ℕ) (insns : List GraphInsn) → All (λ i. i.class < n) insns → (k : ℕ) → Contains (map (λ i. i.class) insns) k → k < n
classes_inside n insns all k there =
    let (i, held, e) = Contains-from_map (λ (i : GraphInsn). i.class) insns k there in
    let low = All-contains (λ (i : GraphInsn). i.class < n) insns i all held in
    omega (arith, low, e)

-- ---- the classes of a description

-- the lists of the class at a place
pub lists_at : (classes : List CheckedClass) (i : ℕ) (d : CheckedClass) → i < length classes → slice_index_or (lists_in classes) i [] ≡ (class_of (get_or classes i d)).lists
lists_at classes i d lt =
    get_or-map (λ (c : ClassParts). c.lists) (map class_of classes) i (class_of d) [] (omega (arith, lt, length-map classes class_of))
    ∙ ap (λ (c : ClassParts). c.lists) (get_or-map class_of classes i d (class_of d) lt)

pub totals_none : (classes : List CheckedClass) (automaton : ℕ) (times : List ℕ) (old : List Total) → ((u : ℕ) → total_at old u ≡ no_total) → AreTotals (lists_in classes) automaton times 0 (length old) old
totals_none classes automaton times old none = record {
  long = refl;
  each = λ u lt. subst (IsTotal (ways_by (lists_in classes) (record { automaton = automaton; unit = u })) times 0) (sym (none u)) (total_none (ways_by (lists_in classes) (record { automaton = automaton; unit = u })) times);
}

pub totals_more : (classes : List CheckedClass) (automaton : ℕ) (times : List ℕ) (n count : ℕ) (class : CheckedClass) (list : List (List (Pair ℕ))) (now new : List Total) → n < length classes → class ≡ get_or classes n class → list ≡ slice_index_or (class_of class).lists automaton []
    → AreTotals (lists_in classes) automaton times n count now → AreJoined list (times_at times n) now new → AreTotals (lists_in classes) automaton times (n + 1) count new
totals_more classes automaton times n count class list now new lt is list_is all joins = record {
  long = joins.long ∙ all.long;
  each = λ u less.
      let many = all.long in
      let inside : u < length now = omega (arith, less, many) in
      let same = ap (ways_in u) there in
      total_more (ways_by (lists_in classes) (record { automaton = automaton; unit = u })) times n (total_at now u) (total_at new u) (all.each u less)
      (joins.each u inside ∙ ap (λ (ws : List (List ℕ)). with_times (times_at times n) (least (map length ws)) (range_of (all_cycles ws)) (total_at now u)) same)
      (λ some. let few = joins.few u inside some in let equal = ap (λ (ws : List (List ℕ)). least (map length ws)) same in omega (arith, few, equal));
}
  where
    there : list ≡ slice_index_or (slice_index_or (lists_in classes) n []) automaton []
    there = list_is ∙ ap (λ (lists : List (List (List (Pair ℕ)))). slice_index_or lists automaton []) (ap (λ (c : CheckedClass). (class_of c).lists) is ∙ sym (lists_at classes n class lt))

pub totals_all : (classes : List CheckedClass) (automaton : ℕ) (times : List ℕ) (n count : ℕ) (now : List Total) → n ≡ length classes → AreTotals (lists_in classes) automaton times n count now → AreTotals (lists_in classes) automaton times (length classes) count now
totals_all classes automaton times n count now e all = subst (λ (k : ℕ). AreTotals (lists_in classes) automaton times k count now) e all

-- the load of a unit by its total
pub unit_load : (classes : List CheckedClass) (insns : List GraphInsn) (automaton : ℕ) (times : List ℕ) (count unit : ℕ) (totals : List Total) (t : Total) → length insns ≤ instruction_limit → All (λ i. i.class < length classes) insns → AreTimes (map (λ i. i.class) insns) (length classes) times
    → AreTotals (lists_in classes) automaton times (length classes) count totals → unit < count → t ≡ get_or totals unit t → option_map shown (load_by t) ≡ load_of (ways_by (lists_in classes) (record { automaton = automaton; unit = unit })) (map (λ i. i.class) insns)
unit_load classes insns automaton times count unit totals t few inside are all lt read =
    ap (λ (t : Total). option_map shown (load_by t)) at
    ∙ total_load (ways_by (lists_in classes) (record { automaton = automaton; unit = unit })) times (map (λ i. i.class) insns) (length classes) are (classes_inside (length classes) insns inside) (omega (arith, few, length-map insns (λ (i : GraphInsn). i.class))) (total_at totals unit) (all.each unit lt)
  where
    at : t ≡ total_at totals unit
    at = read ∙ get_or_default totals unit t no_total (let long = all.long in omega (arith, lt, long))

-- the load as the code holds it
pub unit_reported : (classes view : List CheckedClass) (insns : List GraphInsn) (automaton : ℕ) (times : List ℕ) (count unit : ℕ) (totals : List Total) (t : Total) (load : Option UnitLoad) → view ≡ classes → length insns ≤ instruction_limit → All (λ i. i.class < length classes) insns → AreTimes (map (λ i. i.class) insns) (length classes) times
    → AreTotals (lists_in view) automaton times (length view) count totals → unit < count → t ≡ get_or totals unit t → load ≡ option_map (λ l. record { unit = record { automaton = automaton; unit = unit }; load = l }) (option_map shown (load_by t))
    → load ≡ option_map (λ l. record { unit = record { automaton = automaton; unit = unit }; load = l }) (load_of (ways_by (lists_in classes) (record { automaton = automaton; unit = unit })) (map (λ i. i.class) insns))
unit_reported classes view insns automaton times count unit totals t load seen few inside are all lt read made =
    made ∙ ap (option_map (λ (l : Load). record { unit = record { automaton = automaton; unit = unit }; load = l }))
    (unit_load classes insns automaton times count unit totals t few inside are (subst (λ (cs : List CheckedClass). AreTotals (lists_in cs) automaton times (length cs) count totals) seen all) lt read)
