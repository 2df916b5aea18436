-- The load of the greatest value, found one by one.
use Rattle.std.proofs.Common.{◌≡◌, ℕ, suc, ◌+◌, ◌-◌, ◌<◌, ◌≤◌, Bool, true, false, cond, List, [], ◌∷◌, ◌++◌, map, drop, length, get_or, All, Option, Some, None, refl, sym, ap, ◌∙◌, arith}
use Rattle.std.specs.Prelude.{nat_lt, max, slice_index_or}
use Rattle.std.specs.List.{cons_option, range_with_len}
use Rattle.std.specs.Option.{option_map, option_map_or}
use Rattle.std.proofs.lemmas.Bool.{ltb-true, ltb-false, lt-ltb, le-ltb}
use Rattle.std.proofs.lemmas.List.{length-map, get_or-map, drop_more}
use Rattle.std.proofs.lemmas.List.Elements.{filter_map-append}
use Rattle.hz_base_model.specs.Limits.{unit_limit}
use Rattle.hz_description_model.specs.Reservations.Automata.{UnitPlace}
use Rattle.hz_description_model.specs.Check.CheckedParts.{AutomatonParts}
use Rattle.hz_checked.specs.declared.checked.Checked.{Checked}
use Rattle.hz_checked.specs.declared.checked.CheckedAutomaton.{CheckedAutomaton}
use Rattle.hz_checked.specs.Shape.{automaton_of}
use Rattle.hz_measure_model.specs.Bounds.Paths.{greatest}
use Rattle.hz_measure_model.specs.Bounds.Loads.{load_of}
use Rattle.hz_measure_model.specs.Bounds.Bounds.{units_of, units_from, UnitLoad, loads_of, heavier, heaviest}
use Rattle.hz_bound.specs.Shape.{names_of}

-- ---- the heavier of loads

heavier_none : (o : Option UnitLoad) → heavier o None ≡ o
heavier_none None = refl
heavier_none (Some l) = refl

pub heavier_all : (o p q : Option UnitLoad) → heavier (heavier o p) q ≡ heavier o (heavier p q)
heavier_all None p q = refl
heavier_all (Some a) None q = refl
heavier_all (Some a) (Some b) None = heavier_none (heavier (Some a) (Some b))
heavier_all (Some a) (Some b) (Some c) = go (nat_lt a.load.value b.load.value) (nat_lt b.load.value c.load.value) refl refl
  where
    go : (p q : Bool) → nat_lt a.load.value b.load.value ≡ p → nat_lt b.load.value c.load.value ≡ q → heavier (cond p (Some b) (Some a)) (Some c) ≡ heavier (Some a) (cond q (Some c) (Some b))
    go true true e f =
        let less = ltb-true a.load.value b.load.value e in
        let more = ltb-true b.load.value c.load.value f in
        ap (λ (t : Bool). cond t (Some c) (Some b)) f ∙ sym (ap (λ (t : Bool). cond t (Some c) (Some a)) (lt-ltb a.load.value c.load.value (omega (arith, less, more))))
    go true false e f = ap (λ (t : Bool). cond t (Some c) (Some b)) f ∙ sym (ap (λ (t : Bool). cond t (Some b) (Some a)) e)
    go false true e f = refl
    go false false e f =
        let low = ltb-false a.load.value b.load.value e in
        let high = ltb-false b.load.value c.load.value f in
        ap (λ (t : Bool). cond t (Some c) (Some a)) (le-ltb a.load.value c.load.value (omega (arith, low, high))) ∙ sym (ap (λ (t : Bool). cond t (Some b) (Some a)) e)

heaviest_option : (o : Option UnitLoad) (ls : List UnitLoad) → heaviest (cons_option o ls) ≡ heavier o (heaviest ls)
heaviest_option None ls = refl
heaviest_option (Some l) ls = refl

heaviest_append : (xs ys : List UnitLoad) → heaviest (xs ++ ys) ≡ heavier (heaviest xs) (heaviest ys)
heaviest_append [] ys = refl
heaviest_append (x ∷ xs) ys = ap (heavier (Some x)) (heaviest_append xs ys) ∙ sym (heavier_all (Some x) (heaviest xs) (heaviest ys))

-- the greatest value is that of the heaviest
value_max : (l : UnitLoad) (o : Option UnitLoad) → max l.load.value (option_map_or (λ l. l.load.value) o 0) ≡ option_map_or (λ l. l.load.value) (heavier (Some l) o) 0
value_max l None = omega arith
value_max l (Some o) = go (nat_lt l.load.value o.load.value) refl
  where
    go : (b : Bool) → nat_lt l.load.value o.load.value ≡ b → max l.load.value o.load.value ≡ option_map_or (λ l. l.load.value) (cond b (Some o) (Some l)) 0
    go true e = omega (arith, ltb-true l.load.value o.load.value e)
    go false e = omega (arith, ltb-false l.load.value o.load.value e)

pub greatest_value : (ls : List UnitLoad) → greatest (map (λ l. l.load.value) ls) ≡ option_map_or (λ l. l.load.value) (heaviest ls) 0
greatest_value [] = refl
greatest_value (l ∷ ls) = ap (max l.load.value) (greatest_value ls) ∙ value_max l (heaviest ls)

-- ---- one unit more, and one automaton more

module _ (taken : UnitPlace → ℕ → List (List ℕ)) (classes : List ℕ) where
  abbrev pub load_at : UnitPlace → Option UnitLoad
  load_at u = option_map (λ l. record { unit = u; load = l }) (load_of (taken u) classes)

  -- the heaviest of the units of an automaton from a number on, of so many
  abbrev pub from_unit : ℕ → ℕ → ℕ → Option UnitLoad
  from_unit a i n = heaviest (loads_of taken (map (λ unit. record { automaton = a; unit = unit }) (range_with_len i (n - i))) classes)

  pub unit_more : (a i n : ℕ) (most one new all : Option UnitLoad) → i < n → one ≡ load_at (record { automaton = a; unit = i }) → new ≡ heavier most one → heavier most (from_unit a i n) ≡ all → heavier new (from_unit a (i + 1) n) ≡ all
  unit_more a i n most one new all lt is made same =
      ap (λ (o : Option UnitLoad). heavier o rest) (made ∙ ap (heavier most) is)
      ∙ (heavier_all most here rest ∙ (ap (heavier most) (sym (parts ∙ heaviest_option here (loads_of taken units classes))) ∙ same))
    where
      units : List UnitPlace
      units = map (λ unit. record { automaton = a; unit = unit }) (range_with_len (i + 1) (n - (i + 1)))

      here : Option UnitLoad
      here = load_at (record { automaton = a; unit = i })

      rest : Option UnitLoad
      rest = from_unit a (i + 1) n

      longer : n - i ≡ suc (n - (i + 1))
      longer = omega (arith, lt)

      parts : from_unit a i n ≡ heaviest (cons_option here (loads_of taken units classes))
      parts = ap (λ (k : ℕ). heaviest (loads_of taken (map (λ (unit : ℕ). record { automaton = a; unit = unit }) (range_with_len i k)) classes)) longer

  -- all units of the automaton
  pub all_units : (a n : ℕ) → heavier None (from_unit a 0 n) ≡ heaviest (loads_of taken (units_of a n) classes)
  all_units a n = let same : n - 0 ≡ n = omega arith in ap (λ (k : ℕ). heaviest (loads_of taken (map (λ (unit : ℕ). record { automaton = a; unit = unit }) (range_with_len 0 k)) classes)) same

  pub no_more_units : (a i n : ℕ) (most all : Option UnitLoad) → n ≤ i → heavier most (from_unit a i n) ≡ all → most ≡ all
  no_more_units a i n most all le same =
      let none : n - i ≡ 0 = omega (arith, le) in
      sym (heavier_none most) ∙ (ap (λ (k : ℕ). heavier most (heaviest (loads_of taken (map (λ (unit : ℕ). record { automaton = a; unit = unit }) (range_with_len i k)) classes))) (sym none) ∙ same)

  -- the heaviest of the units of the automata from a number on
  abbrev pub from_automaton : List (List (List ℕ)) → ℕ → Option UnitLoad
  from_automaton names i = heaviest (loads_of taken (units_from i (drop i names)) classes)

  pub automaton_more : (names : List (List (List ℕ))) (i : ℕ) (most one new all : Option UnitLoad) → i < length names → one ≡ heaviest (loads_of taken (units_of i (length (slice_index_or names i []))) classes) → new ≡ heavier most one → heavier most (from_automaton names i) ≡ all → heavier new (from_automaton names (i + 1)) ≡ all
  automaton_more names i most one new all lt is made same =
      ap (λ (o : Option UnitLoad). heavier o (from_automaton names (i + 1))) (made ∙ ap (heavier most) is)
      ∙ (heavier_all most (heaviest (loads_of taken here classes)) (from_automaton names (i + 1)) ∙ (ap (heavier most) (sym parts) ∙ same))
    where
      here : List UnitPlace
      here = units_of i (length (slice_index_or names i []))

      next : units_from (suc i) (drop (i + 1) names) ≡ units_from (i + 1) (drop (i + 1) names)
      next = let same : suc i ≡ i + 1 = omega arith in ap (λ (k : ℕ). units_from k (drop (i + 1) names)) same

      parts : from_automaton names i ≡ heavier (heaviest (loads_of taken here classes)) (from_automaton names (i + 1))
      parts =
          ap (λ (ns : List (List (List ℕ))). heaviest (loads_of taken (units_from i ns) classes)) (drop_more names i [] lt)
          ∙ (ap (λ (us : List UnitPlace). heaviest (loads_of taken (here ++ us) classes)) next
          ∙ (ap heaviest (filter_map-append load_at here (units_from (i + 1) (drop (i + 1) names)))
          ∙ heaviest_append (loads_of taken here classes) (loads_of taken (units_from (i + 1) (drop (i + 1) names)) classes)))

  pub no_more_automata : (names : List (List (List ℕ))) (i : ℕ) (most all : Option UnitLoad) → drop i names ≡ [] → heavier most (from_automaton names i) ≡ all → most ≡ all
  no_more_automata names i most all none same =
      sym (heavier_none most) ∙ (ap (λ (ns : List (List (List ℕ))). heavier most (heaviest (loads_of taken (units_from i ns) classes))) (sym none) ∙ same)

-- ---- the units of an automaton

pub names_at : (checked : Checked) (i : ℕ) (d : CheckedAutomaton) → i < length checked.automata.items → slice_index_or (names_of checked) i [] ≡ (get_or checked.automata.items i d).units.items
names_at checked i d lt =
    get_or-map (λ (a : AutomatonParts). a.units) (map automaton_of checked.automata.items) i (automaton_of d) [] (omega (arith, lt, length-map checked.automata.items automaton_of))
    ∙ ap (λ (a : AutomatonParts). a.units) (get_or-map automaton_of checked.automata.items i d (automaton_of d) lt)

pub names_long : (checked : Checked) → length (names_of checked) ≡ length checked.automata.items
names_long checked = length-map (map automaton_of checked.automata.items) (λ (a : AutomatonParts). a.units) ∙ length-map checked.automata.items automaton_of

pub units_few : (automata : List CheckedAutomaton) → All (λ a. length a.units ≤ unit_limit) (map automaton_of automata) → (i : ℕ) (a : CheckedAutomaton) → i < length automata → a ≡ get_or automata i a → length a.units.items ≤ 256
units_few automata all i a lt is =
    let few = all i (automaton_of a) (omega (arith, lt, length-map automata automaton_of)) in
    let there = get_or-map automaton_of automata i a (automaton_of a) lt in
    let same = ap (λ (p : AutomatonParts). length p.units) there in
    let here = ap (λ (b : CheckedAutomaton). length b.units.items) is in
    omega (arith, few, same, here)
