-- What is made is the bound, and in range.
use Rattle.std.proofs.Common.{◌≡◌, ℕ, suc, ◌+◌, ◌-◌, ◌<◌, ◌≤◌, ⊎_elim, Bool, true, false, cond, List, [], ◌∷◌, map, length, All, Contains, Option, Some, None, refl, sym, ap, ◌∙◌, subst, arith}
use Rattle.std.specs.Prelude.{max, nat_lt, slice_index_or}
use Rattle.std.specs.List.{range_with_len}
use Rattle.std.specs.Option.{option_map, option_map_or}
use Rattle.std.proofs.lemmas.List.{length-map}
use Rattle.std.proofs.lemmas.List.Elements.{All-nil, All-cons, All-contains, Contains-append_cases}
use Rattle.hz_base_model.proofs.Elements.{Contains-nil, Contains-head, Contains-tail, Contains-from_map, Contains-from_range}
use Rattle.hz_description_model.specs.Reading.Limits.{latency_limit}
use Rattle.hz_description_model.specs.Reservations.Automata.{UnitPlace}
use Rattle.hz_description_model.proofs.Check.PlaceLaws.{from_filter_map}
use Rattle.hz_block_model.specs.Dependences.Graphs as graphs
use Rattle.hz_block_model.specs.Scheduling.Schedules as model
use Rattle.hz_block_model.specs.Scheduled.BlockGraphs.{classes_of}
use Rattle.hz_depend.specs.declared.parts.Edge.{Edge}
use Rattle.hz_depend.specs.declared.parts.Graph.{Graph}
use Rattle.hz_depend.specs.declared.parts.GraphInsn.{GraphInsn}
use Rattle.hz_depend.specs.GraphShape.{edge_of, IsSchedulable}
use Rattle.hz_checked.specs.declared.checked.Checked.{Checked}
use Rattle.hz_sched.specs.Shape.{node_of, graph_of}
use Rattle.hz_measure_model.specs.Bounds.Paths.{greatest, GoesOn, IsChain}
use Rattle.hz_measure_model.specs.Bounds.Loads.{Load as ModelLoad, ways_by, load_of as load_by}
use Rattle.hz_measure_model.specs.Bounds.Bounds.{units_of, units_from, UnitLoad, loads_of, heavier, heaviest, IsBoundBy}
use Rattle.hz_bound.specs.declared.parts.Load.{Load}
use Rattle.hz_bound.specs.declared.parts.Bound.{Bound}
use Rattle.hz_bound.specs.Rows.{IsPathOf}
use Rattle.hz_bound.specs.Shape.{names_of, lists_in, load_of, bound_of, IsAmong, IsInRange}
use Rattle.hz_bound.proofs.HeaviestLemmas.{greatest_value}

-- the classes of the instructions
classes_are : (g : Graph) → classes_of (graph_of g) ≡ map (λ i. i.class) g.insns.items
classes_are g = go g.insns.items
  where
    go : (insns : List GraphInsn) → map (λ n. n.class) (map node_of insns) ≡ map (λ i. i.class) insns
    go [] = refl
    go (i ∷ insns) = ap (λ (ks : List ℕ). i.class ∷ ks) (go insns)

module _ (checked : Checked) (g : Graph) where
  abbrev lists : UnitPlace → ℕ → List (List ℕ)
  lists = ways_by (lists_in checked.classes.items)

  pub bound_is : (b : Bound) (load value : ℕ) → IsPathOf (graph_of g) b.path b.chain.items → option_map load_of b.load ≡ heaviest (loads_of lists (units_from 0 (names_of checked)) (map (λ i. i.class) g.insns.items))
      → load ≡ option_map_or (λ l. l.load.value) (option_map load_of b.load) 0 → b.value ≡ max b.path load → IsBoundBy lists (names_of checked) (graph_of g) (bound_of b)
  bound_is b load value path heavy at most =
      let same = ap (loads_of lists (units_from 0 (names_of checked))) (sym (classes_are g)) in
      record {
        tails = path.tails;
        are = path.are;
        path = path.path;
        chain = path.chain;
        load = heavy ∙ ap heaviest same;
        value = most ∙ ap (max b.path) (at ∙ (ap (λ (o : Option UnitLoad). option_map_or (λ (l : UnitLoad). l.load.value) o 0) heavy ∙ (sym (greatest_value (loads_of lists (units_from 0 (names_of checked)) (map (λ i. i.class) g.insns.items))) ∙ ap (λ (ls : List UnitLoad). greatest (map (λ l. l.load.value) ls)) same)));
      }

-- ---- places

module _ (g : model.Graph) (inside : (e : graphs.Edge) → Contains g.edges e → e.to < length g.nodes) where
  rest_inside : (tails : List ℕ) (j : ℕ) (chain : List ℕ) → GoesOn g tails j chain → All (λ place. place < length g.nodes) chain
  rest_inside tails j [] on = All-nil (λ (place : ℕ). place < length g.nodes)
  rest_inside tails j (k ∷ chain) (more, least, on) =
      let c = least.is in
      let low = inside c.by c.there in
      let to = c.leads in
      All-cons (λ (place : ℕ). place < length g.nodes) k chain (omega (arith, low, to)) (rest_inside tails k chain on)

  pub chain_inside : (tails chain : List ℕ) → IsChain g tails chain → All (λ place. place < length g.nodes) chain
  chain_inside tails [] is = All-nil (λ (place : ℕ). place < length g.nodes)
  chain_inside tails (j ∷ chain) (least, on) = All-cons (λ (place : ℕ). place < length g.nodes) j chain ((least.is).0) (rest_inside tails j chain on)

-- ---- units

-- A unit is one of those that have these names.
record IsUnitOf (first : ℕ) (names : List (List (List ℕ))) (u : UnitPlace) : Type 0 where
  pub low : first ≤ u.automaton
  pub automaton : u.automaton < first + length names
  pub unit : u.unit < length (slice_index_or names (u.automaton - first) [])

units_are : (first : ℕ) (names : List (List (List ℕ))) (u : UnitPlace) → Contains (units_from first names) u → IsUnitOf first names u
units_are first [] u there = absurd (Contains-nil u there)
units_are first (units ∷ names) u there = ⊎_elim
    (λ (here : Contains (units_of first (length units)) u). this (Contains-from_map (λ (unit : ℕ). record { automaton = first; unit = unit }) (range_with_len 0 (length units)) u here))
    (λ (later : Contains (units_from (suc first) names) u). other (units_are (suc first) names u later))
    (Contains-append_cases (units_of first (length units)) (units_from (suc first) names) u there)
  where
    this : (n : ℕ) × Contains (range_with_len 0 (length units)) n × (record { automaton = first; unit = n } ≡ u) → IsUnitOf first (units ∷ names) u
    this (n, held, e) = subst (IsUnitOf first (units ∷ names)) e (record {
      low = omega arith;
      automaton = omega arith;
      unit = let none : 0 ≡ first - first = omega arith in subst (λ (k : ℕ). n < length (slice_index_or (units ∷ names) k [])) none (Contains-from_range (length units) n held);
    })

    other : IsUnitOf (suc first) names u → IsUnitOf first (units ∷ names) u
    other is =
        let lower : suc (u.automaton - suc first) ≡ u.automaton - first = let low = is.low in omega (arith, low) in
        record {
          low = let low = is.low in omega (arith, low);
          automaton = let high = is.automaton in omega (arith, high);
          unit = subst (λ (k : ℕ). u.unit < length (slice_index_or (units ∷ names) k [])) lower is.unit;
        }

heaviest_there : (ls : List UnitLoad) (l : UnitLoad) → heaviest ls ≡ Some l → Contains ls l
heaviest_there [] l e = absurd (cc)
heaviest_there (x ∷ xs) l e = go (heaviest xs) refl e (λ o f. heaviest_there xs o f)
  where
    this : Some x ≡ Some l → Contains (x ∷ xs) l
    this e = let same : x ≡ l = cc in subst (Contains (x ∷ xs)) same (Contains-head x xs)

    go : (o : Option UnitLoad) → heaviest xs ≡ o → heavier (Some x) o ≡ Some l → ((p : UnitLoad) → heaviest xs ≡ Some p → Contains xs p) → Contains (x ∷ xs) l
    go None f e later = this e
    go (Some o) f e later = pick (nat_lt x.load.value o.load.value) e
      where
        pick : (b : Bool) → cond b (Some o) (Some x) ≡ Some l → Contains (x ∷ xs) l
        pick true e = Contains-tail x l xs (later l (f ∙ e))
        pick false e = this e

unit_of : (u : UnitPlace) (o : Option ModelLoad) (w : UnitLoad) → option_map (λ k. record { unit = u; load = k }) o ≡ Some w → u ≡ w.unit
unit_of u None w e = absurd (cc)
unit_of u (Some k) w e = let same : record { unit = u; load = k } ≡ w = cc in ap (λ (v : UnitLoad). v.unit) same

pub load_among : (taken : UnitPlace → ℕ → List (List ℕ)) (names : List (List (List ℕ))) (classes : List ℕ) (load : Option Load) → option_map load_of load ≡ heaviest (loads_of taken (units_from 0 names) classes) → IsAmong names load
load_among taken names classes None e = tt
load_among taken names classes (Some l) e =
    let (u, held, is) = from_filter_map (λ u. option_map (λ k. record { unit = u; load = k }) (load_by (taken u) classes)) (units_from 0 names) (load_of l) (heaviest_there (loads_of taken (units_from 0 names) classes) (load_of l) (sym e)) in
    let same = unit_of u (load_by (taken u) classes) (load_of l) is in
    let at = subst (IsUnitOf 0 names) same (units_are 0 names u held) in
    let none : l.automaton - 0 ≡ l.automaton = omega arith in
    (let low = at.automaton in omega (arith, low), subst (λ (k : ℕ). l.unit < length (slice_index_or names k [])) none at.unit)

pub in_range : (checked : Checked) (g : Graph) (b : Bound) → IsSchedulable (length checked.classes.items) g → IsPathOf (graph_of g) b.path b.chain.items → option_map load_of b.load ≡ heaviest (loads_of (ways_by (lists_in checked.classes.items)) (units_from 0 (names_of checked)) (map (λ i. i.class) g.insns.items)) → IsInRange checked g b
in_range checked g b formed path heavy = record {
  chain = subst (λ (n : ℕ). All (λ place. place < n) b.chain.items) (length-map g.insns.items node_of) (chain_inside (graph_of g) inside path.tails b.chain.items path.chain);
  unit = load_among (ways_by (lists_in checked.classes.items)) (names_of checked) (map (λ i. i.class) g.insns.items) b.load heavy;
}
  where
    inside : (e : graphs.Edge) → Contains (map edge_of g.edges.items) e → e.to < length (map node_of g.insns.items)
    inside e there =
        let (f, held, same) = Contains-from_map edge_of g.edges.items e there in
        let (up, low, small) = All-contains (λ (e : Edge). (e.from < e.to) × (e.to < length g.insns.items) × (e.cost ≤ latency_limit)) g.edges.items f formed.edges held in
        let to = ap (λ (e : graphs.Edge). e.to) same in
        omega (arith, low, to, length-map g.insns.items node_of)
