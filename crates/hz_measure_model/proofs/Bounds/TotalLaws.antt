-- Each graph has one bound, and there is one.
use Rattle.std.proofs.Common.{◌≡◌, ℕ, ◌<◌, List, [], map, length, Contains, refl, sym, ap, ◌∙◌, subst, arith}
use Rattle.std.specs.Prelude.{slice_index, max}
use Rattle.std.specs.List.{range_with_len}
use Rattle.std.proofs.lemmas.List.{same_lists, get_or_default}
use Rattle.std.proofs.lemmas.List.FromFn.{length-map-range_with_len, get_or-map-range_with_len}
use Rattle.hz_description_model.specs.Reservations.Automata.{UnitPlace}
use Rattle.hz_block_model.specs.Dependences.Graphs.{Edge, IsHeight}
use Rattle.hz_block_model.proofs.Dependences.HeightLaws.{one_height}
use Rattle.hz_block_model.specs.Scheduling.Schedules.{Graph}
use Rattle.hz_block_model.proofs.Schedulable.GraphTotal.{some_heights}
use Rattle.hz_block_model.specs.Scheduled.BlockGraphs.{classes_of}
use Rattle.hz_measure_model.specs.Bounds.Paths.{greatest, AreTails, IsChain}
use Rattle.hz_measure_model.specs.Bounds.Bounds.{units_from, loads_of, heaviest, Bound, IsBoundBy}
use Rattle.hz_measure_model.proofs.Bounds.ChainLaws.{one_chain, some_chain}

module _ (g : Graph) (upward : (e : Edge) → Contains g.edges e → (e.from < e.to) × (e.to < length g.nodes)) where
  pub one_tails : (ts us : List ℕ) → AreTails g ts → AreTails g us → ts ≡ us
  one_tails ts us a b = same_lists ts us (a.long ∙ sym b.long) (λ k d lt.
      let inside : k < length g.nodes = omega (arith, lt, a.long) in
      get_or_default ts k d 0 lt ∙ (one_height g.edges [] (length g.nodes) upward ts us a.each b.each (length g.nodes) k inside (omega (arith, inside)) ∙ sym (get_or_default us k d 0 (omega (arith, inside, b.long)))))

  pub some_tails : (ts : List ℕ) × AreTails g ts
  some_tails = (ts, record { long = length-map-range_with_len h 0 (length g.nodes); each = each })
    where
      h : ℕ → ℕ
      h = (some_heights g.edges [] (length g.nodes) upward).0

      ts : List ℕ
      ts = map h (range_with_len 0 (length g.nodes))

      at : (i : ℕ) → i < length g.nodes → slice_index ts i ≡ h i
      at i lt = get_or-map-range_with_len h 0 (length g.nodes) i i 0 lt (omega arith)

      each : (i : ℕ) → i < length g.nodes → IsHeight g.edges [] ts i
      each i lt =
          let is = (some_heights g.edges [] (length g.nodes) upward).1 i lt in
          record {
            none = λ none. at i lt ∙ is.none none;
            least = λ e c from. let (up, low) = upward e c in omega (arith, is.least e c from, at i lt, at e.to low);
            reached = λ e c from. let (f, there, also, equal) = is.reached e c from in let (up, low) = upward f there in (f, there, also, omega (arith, equal, at i lt, at f.to low));
          }

  module _ (taken : UnitPlace → ℕ → List (List ℕ)) (names : List (List (List ℕ))) where
    same_bound : (b c : Bound) → b.path ≡ c.path → b.chain ≡ c.chain → b.load ≡ c.load → b.value ≡ c.value → b ≡ c
    same_bound b c p q r s = λ i. record { path = p i; chain = q i; load = r i; value = s i }

    pub one_bound : (b c : Bound) → IsBoundBy taken names g b → IsBoundBy taken names g c → b ≡ c
    one_bound b c one other =
        let tails = one_tails one.tails other.tails one.are other.are in
        let path : b.path ≡ c.path = one.path ∙ (ap greatest tails ∙ sym other.path) in
        same_bound b c path
        (one_chain g one.tails b.chain c.chain one.chain (subst (λ (ts : List ℕ). IsChain g ts c.chain) (sym tails) other.chain))
        (one.load ∙ sym other.load)
        (omega (arith, one.value, other.value, path))

    pub some_bound : (b : Bound) × IsBoundBy taken names g b
    some_bound =
        let (ts, are) = some_tails in
        let (chain, is) = some_chain g ts are upward in
        let loads = loads_of taken (units_from 0 names) (classes_of g) in (
          record { path = greatest ts; chain = chain; load = heaviest loads; value = max (greatest ts) (greatest (map (λ l. l.load.value) loads)) },
          record { tails = ts; are = are; path = refl; chain = is; load = refl; value = refl },
        )
