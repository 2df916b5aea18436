-- No legal schedule ends before its bound.
use Rattle.std.proofs.Common.{◌≡◌, ℕ, ◌<◌, ◌≤◌, List, [], ◌∷◌, map, length, Contains, Option, Some, None, ap, sym, ◌∙◌, subst, sum_by, arith}
use Rattle.std.specs.Option.{option_map}
use Rattle.hz_base_model.proofs.Elements.{Contains-head, Contains-tail, Contains-from_map}
use Rattle.hz_description_model.specs.Reservations.Automata.{UnitPlace}
use Rattle.hz_description_model.specs.Check.Places.{Known}
use Rattle.hz_description_model.specs.Reading.Descriptions.{Description}
use Rattle.hz_description_model.proofs.Check.PlaceLaws.{from_filter_map}
use Rattle.hz_pipeline_model.specs.Accepting.Replay.{Pipeline, Accepted}
use Rattle.hz_pipeline_model.specs.Pipelines.Pipelines.{pipeline_with}
use Rattle.hz_block_model.specs.Running.Blocks.{Instruction}
use Rattle.hz_block_model.specs.Dependences.Graphs.{Edge}
use Rattle.hz_block_model.specs.Scheduling.Schedules.{Graph, Slot, present, Legal}
use Rattle.hz_block_model.specs.Scheduled.BlockGraphs.{classes_of, IsGraphOf}
use Rattle.hz_block_model.proofs.Scheduled.GraphLaws.{as_many}
use Rattle.hz_measure_model.specs.Bounds.Paths.{greatest, IsChain, LeadAlong}
use Rattle.hz_measure_model.specs.Bounds.Loads.{Load, ways, load_of}
use Rattle.hz_measure_model.specs.Bounds.Bounds.{unit_names, units_from, UnitLoad, loads_of, Bound, IsBoundBy, IsBoundOf}
use Rattle.hz_measure_model.proofs.Bounds.LoadLaws.{load_below}
use Rattle.hz_measure_model.proofs.Bounds.ChainLaws.{chain_costs}
use Rattle.hz_measure_model.proofs.Bounds.PathLaws.{path_below}

pub greatest_below : (ns : List ℕ) (limit : ℕ) → ((n : ℕ) → Contains ns n → n ≤ limit) → greatest ns ≤ limit
greatest_below [] limit all = omega arith
greatest_below (n ∷ ns) limit all = let rest = greatest_below ns limit (λ m there. all m (Contains-tail n m ns there)) in let here = all n (Contains-head n ns) in omega (arith, rest, here)

loaded : (u : UnitPlace) (o : Option Load) (l : UnitLoad) → option_map (λ (l : Load). record { unit = u; load = l }) o ≡ Some l → o ≡ Some l.load
loaded u None l e = absurd (cc)
loaded u (Some k) l e = let same : record { unit = u; load = k } ≡ l = cc in ap (λ (w : UnitLoad). Some w.load) same

module _ (m : Pipeline UnitPlace) (names : List (List (List ℕ))) (g : Graph) (slots : List Slot) (legal : Legal (Accepted m) g slots) where
  abbrev loads : List UnitLoad
  loads = loads_of (ways m) (units_from 0 names) (classes_of g)

  loads_below : (n : ℕ) → Contains (map (λ l. l.load.value) loads) n → n ≤ present 0 slots
  loads_below n there =
      let (l, held, e) = Contains-from_map (λ (l : UnitLoad). l.load.value) loads n there in
      let (u, unit, is) = from_filter_map (λ u. option_map (λ l. record { unit = u; load = l }) (load_of (ways m u) (classes_of g))) (units_from 0 names) l held in
      let low = load_below m g slots legal u l.load (loaded u (load_of (ways m u) (classes_of g)) l is) in
      omega (arith, low, e)

  pub bound_below : ((e : Edge) → Contains g.edges e → (e.from < e.to) × (e.to < length g.nodes)) → (b : Bound) → IsBoundBy (ways m) names g b → b.value ≤ present 0 slots
  bound_below upward b is =
      let path = path_below g is.tails is.are upward (Accepted m) slots legal in
      let low = greatest_below (map (λ l. l.load.value) loads) (present 0 slots) loads_below in
      omega (arith, path, low, is.path, is.value)

-- the edges of a block's graph lead upwards
pub upward_in : (d : Description) (block : List Instruction) (g : Graph) → IsGraphOf d block g → (e : Edge) → Contains g.edges e → (e.from < e.to) × (e.to < length g.nodes)
upward_in d block g graph e there = let (up, low, holds, weight) = (graph.edges).only e there in (up, omega (arith, low, as_many d block g graph))

pub bound_of_block : (d : Description) (known : Known) (block : List Instruction) (g : Graph) (b : Bound) (slots : List Slot) → IsGraphOf d block g → IsBoundOf d known g b → Legal (Accepted (pipeline_with d known)) g slots → b.value ≤ present 0 slots
bound_of_block d known block g b slots graph is legal = bound_below (pipeline_with d known) (unit_names d) g slots legal (upward_in d block g graph) b is

-- the chain of a bound costs its path
pub chain_of_bound : (taken : UnitPlace → ℕ → List (List ℕ)) (names : List (List (List ℕ))) (g : Graph) (b : Bound) (j : ℕ) (chain : List ℕ) → IsBoundBy taken names g b → b.chain ≡ j ∷ chain → (edges : List Edge) × LeadAlong g j chain edges × (sum_by (λ e. e.cost) edges ≡ b.path)
chain_of_bound taken names g b j chain is e =
    let (edges, along, costs) = chain_costs g is.tails j chain (subst (IsChain g is.tails) e is.chain) in
    (edges, along, costs ∙ sym is.path)
