-- What a search finds, that begins at the first interval that keeps the costs in few stages, is the kernel.
use Rattle.std.proofs.Common.{◌≡◌, ℕ, ◌+◌, ◌/◌, ◌<◌, ◌≤◌, max, List, length, Contains, arith}
use Rattle.std.specs.Prelude.{◌↔◌}
use Rattle.std.specs.List.{repeat}
use Rattle.hz_block_model.specs.Running.Blocks.{Instruction}
use Rattle.hz_block_model.specs.Dependences.Dependences.{Timing}
use Rattle.hz_block_model.specs.Dependences.Graphs.{Edge, IsGraph}
use Rattle.hz_block_model.specs.Dependences.Orders.{IsOrder}
use Rattle.hz_pipeline_model.specs.Tables.Machines.{Machine}
use Rattle.hz_block_model.specs.Scheduling.Schedules.{Graph, Slot, places, present}
use Rattle.hz_measure_model.specs.Kernels.Turns.{stages}
use Rattle.hz_measure_model.specs.Kernels.Repeats.{KeepsCosts, stage_limit, Repeats, IsKernel}
use Rattle.hz_measure_model.proofs.Kernels.CostLaws.{least_of, costs_exactly, few_stages}

module _ (m : Machine) (body : List Instruction) (three : Timing) (g : Graph) (slots : List Slot) (order : IsOrder (length body) (places slots)) (in_time : (y : Slot) → Contains slots y → y.cycle ≤ present 0 slots)
    (cycle : ℕ → ℕ) (tells : (y : Slot) → Contains slots y → cycle y.place ≡ y.cycle) (edges : List Edge) (graph : IsGraph (repeat 3 body) three edges) (long : ℕ) (keeps : KeepsCosts body three long slots 3) where
  -- the first interval that is looked at
  abbrev pub first_interval : ℕ
  first_interval = max (present 0 slots / (stage_limit + 1) + 1) (least_of (length body) cycle edges)

  -- from it on, and there alone, the costs are kept in few stages
  pub fit_exactly : (interval : ℕ) → 1 ≤ interval → ((stages interval slots ≤ stage_limit) × KeepsCosts body three interval slots 3) ↔ (first_interval ≤ interval)
  fit_exactly interval some = (
    (λ fit.
        let few = (few_stages slots interval stage_limit (omega arith)).0 fit.0 in
        let low = (costs_exactly body three slots order in_time cycle tells edges graph long interval keeps).0 fit.1 in
        omega (arith, few, low)),
    (λ le. (
      (few_stages slots interval stage_limit (omega arith)).1 (omega (arith, le)),
      (costs_exactly body three slots order in_time cycle tells edges graph long interval keeps).1 (omega (arith, le)),
    )),
  )

  -- the first that repeats from there on is the kernel's
  pub found_kernel : (interval first second : ℕ) → 1 ≤ interval → Repeats m body three g slots interval first second
      → ((shorter : ℕ) → first_interval ≤ shorter → shorter < interval → (a b : ℕ) → Repeats m body three g slots shorter a b → ⊥) → IsKernel m body three g slots interval first second
  found_kernel interval first second some repeats none = record {
    some = some;
    repeats = repeats;
    least = λ shorter a b low lt also. none shorter ((fit_exactly shorter low).0 (also.few, also.costs)) lt a b also;
  }
