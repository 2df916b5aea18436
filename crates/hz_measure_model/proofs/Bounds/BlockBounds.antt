-- A block has one bound, whatever the order of its graph's edges.
use Rattle.std.proofs.Common.{◌≡◌, ℕ, List, [], ◌∷◌, map, length, sym, ap, ◌∙◌, arith}
use Rattle.std.specs.Prelude.{max}
use Rattle.hz_description_model.specs.Reservations.Automata.{UnitPlace}
use Rattle.hz_description_model.specs.Reading.Descriptions.{Description}
use Rattle.hz_block_model.specs.Running.Blocks.{Instruction}
use Rattle.hz_block_model.specs.Scheduling.Schedules.{Graph}
use Rattle.hz_block_model.specs.Scheduled.BlockGraphs.{IsGraphOf}
use Rattle.hz_description_model.specs.Check.Places.{Known}
use Rattle.hz_pipeline_model.specs.Pipelines.Pipelines.{pipeline_with}
use Rattle.hz_block_model.proofs.Scheduling.AlikeGraphs.{AreAlike, alike_back, alike_length}
use Rattle.hz_block_model.proofs.Scheduled.GraphLaws.{graphs_alike}
use Rattle.hz_measure_model.specs.Bounds.Paths.{greatest, AreTails, CarriesOn, GoesOn, IsChain}
use Rattle.hz_measure_model.specs.Bounds.Loads.{ways}
use Rattle.hz_measure_model.specs.Bounds.Bounds.{unit_names, units_from, UnitLoad, loads_of, heaviest, Bound, IsBoundBy, IsBoundOf}
use Rattle.hz_measure_model.proofs.Bounds.BoundLaws.{upward_in}
use Rattle.hz_measure_model.proofs.Bounds.TotalLaws.{one_bound, some_bound}

carries_there : (g h : Graph) → AreAlike g h → (tails : List ℕ) (j k : ℕ) → CarriesOn g tails j k → CarriesOn h tails j k
carries_there g h same tails j k c = record { by = c.by; there = same.there c.by c.there; leaves = c.leaves; leads = c.leads; whole = c.whole }

module _ (g h : Graph) (same : AreAlike g h) where
  as_long : length g.nodes ≡ length h.nodes
  as_long = alike_length g h same

  tails_there : (tails : List ℕ) → AreTails g tails → AreTails h tails
  tails_there tails are = record {
    long = are.long ∙ as_long;
    each = λ i lt. let is = are.each i (omega (arith, lt, as_long)) in record {
      none = λ none. is.none (λ e c from. none e (same.there e c) from);
      least = λ e c from. is.least e (same.back e c) from;
      reached = λ e c from. let (f, there, also, whole) = is.reached e (same.back e c) from in (f, same.there f there, also, whole);
    };
  }

  on_there : (tails : List ℕ) (j : ℕ) (chain : List ℕ) → GoesOn g tails j chain → GoesOn h tails j chain
  on_there tails j [] on = on
  on_there tails j (k ∷ chain) (more, least, on) = (
    more,
    record { is = carries_there g h same tails j k least.is; first = λ i lt c. least.first i lt (carries_there h g (alike_back g h same) tails j i c) },
    on_there tails k chain on,
  )

  chain_there : (tails chain : List ℕ) → IsChain g tails chain → IsChain h tails chain
  chain_there tails [] is = sym as_long ∙ is
  chain_there tails (j ∷ chain) (least, on) = (
    record { is = (omega (arith, (least.is).0, as_long), (least.is).1); first = λ i lt at. least.first i lt (omega (arith, at.0, as_long), at.1) },
    on_there tails j chain on,
  )

  pub bound_there : (taken : UnitPlace → ℕ → List (List ℕ)) (names : List (List (List ℕ))) (b : Bound) → IsBoundBy taken names g b → IsBoundBy taken names h b
  bound_there taken names b is = record {
    tails = is.tails;
    are = tails_there is.tails is.are;
    path = is.path;
    chain = chain_there is.tails b.chain is.chain;
    load = is.load ∙ ap (λ (cs : List ℕ). heaviest (loads_of taken (units_from 0 names) cs)) same.classes;
    value = is.value ∙ ap (λ (cs : List ℕ). max b.path (greatest (map (λ (l : UnitLoad). l.load.value) (loads_of taken (units_from 0 names) cs)))) same.classes;
  }

pub one_bound_of_a_block : (d : Description) (known : Known) (block : List Instruction) (g h : Graph) (b c : Bound) → IsGraphOf d block g → IsGraphOf d block h → IsBoundOf d known g b → IsBoundOf d known h c → b ≡ c
one_bound_of_a_block d known block g h b c one other is also =
    one_bound g (upward_in d block g one) (ways (pipeline_with d known)) (unit_names d) b c is (bound_there h g (graphs_alike d block h g other one) (ways (pipeline_with d known)) (unit_names d) c also)

pub some_bound_of_a_block : (d : Description) (known : Known) (block : List Instruction) (g : Graph) → IsGraphOf d block g → (b : Bound) × IsBoundOf d known g b
some_bound_of_a_block d known block g graph = some_bound g (upward_in d block g graph) (ways (pipeline_with d known)) (unit_names d)
