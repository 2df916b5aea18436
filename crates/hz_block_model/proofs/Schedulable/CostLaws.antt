-- No dependence of a block costs more than the greatest latency that may be.
use Rattle.std.proofs.Common.{ℕ, zero, suc, ◌-◌, ◌≤◌, Bool, true, false, cond, max, List, [], ◌∷◌, map, filter, All, Some, arith}
use Rattle.std.specs.Prelude.{slice_index, slice_get, unwrap_or, ◌&&◌, ◌==◌, not}
use Rattle.std.specs.List.{list_any, find}
use Rattle.std.specs.Option.{option_map}
use Rattle.std.proofs.lemmas.List.Elements.{All-head, All-tail, All-map, All-filter, All-weaker}
use Rattle.hz_description_model.specs.Reading.Descriptions.{Description}
use Rattle.hz_description_model.specs.Reading.DescriptionShape.{IsCheckable, IsCheckableClass, IsCheckableBypass}
use Rattle.hz_description_model.specs.Check.CheckedParts.{BypassParts, bypass_parts}
use Rattle.hz_block_model.specs.Running.Blocks.{Instruction}
use Rattle.hz_block_model.specs.Dependences.Classes.{bypass_between, number_where}
use Rattle.hz_block_model.specs.Dependences.Stores.{stores_data_at}
use Rattle.hz_block_model.specs.Dependences.Dependences.{at_places, is_true, is_output, cost}
use Rattle.hz_block_model.specs.Scheduled.BlockGraphs.{latencies_in, timing_in}

small_at : (xs : List ℕ) (k : ℕ) → All (λ n. n ≤ 1000) xs → slice_index xs k ≤ 1000
small_at [] k all = omega arith
small_at (x ∷ xs) zero all = All-head (λ n. n ≤ 1000) x xs all
small_at (x ∷ xs) (suc k) all = small_at xs k (All-tail (λ n. n ≤ 1000) x xs all)

small_between : (bypasses : List BypassParts) (out in_ otherwise : ℕ) → otherwise ≤ 1000 → All (λ b. b.number ≤ 1000) bypasses → unwrap_or (bypass_between bypasses out in_) otherwise ≤ 1000
small_between [] out in_ otherwise low all = low
small_between (b ∷ bypasses) out in_ otherwise low all = go (list_any (λ n. n == out) b.outs && list_any (λ n. n == in_) b.ins) (small_between bypasses out in_ otherwise low (All-tail (λ b. b.number ≤ 1000) b bypasses all))
  where
    go : (here : Bool) → unwrap_or (bypass_between bypasses out in_) otherwise ≤ 1000 → unwrap_or (option_map (λ (b : BypassParts). b.number) (cond here (Some b) (find (λ b. list_any (λ n. n == out) b.outs && list_any (λ n. n == in_) b.ins) bypasses))) otherwise ≤ 1000
    go true rest = All-head (λ b. b.number ≤ 1000) b bypasses all
    go false rest = rest

-- of bypasses with the guard and of those without it
small_number : (bypasses : List BypassParts) (latency : ℕ) (is_store : Bool) (out in_ : ℕ) → latency ≤ 1000 → All (λ b. b.number ≤ 1000) bypasses → number_where bypasses latency is_store out in_ ≤ 1000
small_number bypasses latency is_store out in_ low all = by_store is_store
  where
    unguarded : unwrap_or (bypass_between (filter (λ b. not b.guard) bypasses) out in_) latency ≤ 1000
    unguarded = small_between (filter (λ b. not b.guard) bypasses) out in_ latency low (All-filter (λ b. not b.guard) (λ b. b.number ≤ 1000) bypasses all)

    by_store : (b : Bool) → number_where bypasses latency b out in_ ≤ 1000
    by_store true = small_between (filter (λ b. b.guard) bypasses) out in_ (unwrap_or (bypass_between (filter (λ b. not b.guard) bypasses) out in_) latency) unguarded (All-filter (λ b. b.guard) (λ b. b.number ≤ 1000) bypasses all)
    by_store false = unguarded

greatest_small : (a b : Bool) (n l m : ℕ) → n ≤ 1000 → l ≤ 1000 → max (cond a n 0) (cond b (l - m) 0) ≤ 1000
greatest_small true true n l m low small = omega arith
greatest_small true false n l m low small = omega arith
greatest_small false true n l m low small = omega arith
greatest_small false false n l m low small = omega arith

module _ (d : Description) (formed : IsCheckable d) where
  latency_small : (k : ℕ) → slice_index (latencies_in d) k ≤ 1000
  latency_small k = small_at (latencies_in d) k (All-map (λ n. n ≤ 1000) (λ c. c.latency) d.classes (All-weaker (IsCheckableClass formed.kinds) (λ c. c.latency ≤ 1000) (λ c h. h.latency) d.classes formed.classes))

  bypasses_small : All (λ b. b.number ≤ 1000) (map (bypass_parts d) d.bypasses)
  bypasses_small = All-map (λ b. b.number ≤ 1000) (bypass_parts d) d.bypasses (All-weaker (IsCheckableBypass formed.kinds) (λ b. b.number ≤ 1000) (λ b h. h.number) d.bypasses formed.bypasses)

  pub cost_small : (block : List Instruction) (classes : List ℕ) (i j : ℕ) → cost block (timing_in d classes block) i j ≤ 1000
  cost_small block classes i j = greatest_small
      (at_places is_true block i j (slice_get block i) (slice_get block j)) (at_places is_output block i j (slice_get block i) (slice_get block j))
      (number_where (map (bypass_parts d) d.bypasses) (slice_index (latencies_in d) (slice_index classes i)) (stores_data_at block i j) (slice_index classes i) (slice_index classes j))
      (slice_index (latencies_in d) (slice_index classes i)) (slice_index (latencies_in d) (slice_index classes j))
      (small_number (map (bypass_parts d) d.bypasses) (slice_index (latencies_in d) (slice_index classes i)) (stores_data_at block i j) (slice_index classes i) (slice_index classes j) (latency_small (slice_index classes i)) bypasses_small)
      (latency_small (slice_index classes i))
