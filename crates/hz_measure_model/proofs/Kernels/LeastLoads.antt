-- No interval below what a turn takes of a unit repeats.
use Rattle.std.proofs.Common.{◌≡◌, ℕ, zero, suc, ◌+◌, ◌*◌, ◌≤◌, ⊎_elim, List, map, length, All, Contains, sym, ap, ◌∙◌, subst, arith}
use Rattle.std.specs.Prelude.{nat_lt}
use Rattle.std.specs.List.{repeat, flat_map}
use Rattle.std.proofs.lemmas.List.Elements.{All-nil, All-append, Contains-append_cases}
use Rattle.hz_base_model.proofs.Elements.{Contains-nil, Contains-filter, Contains-from_filter}
use Rattle.hz_description_model.specs.Check.CheckFaults.{IsSound}
use Rattle.hz_description_model.specs.Check.CheckedParts.{automata_of, class_parts}
use Rattle.hz_description_model.specs.Check.Places.{Known}
use Rattle.hz_description_model.specs.Reading.Descriptions.{Description}
use Rattle.hz_description_model.specs.Reservations.Automata.{UnitPlace}
use Rattle.hz_pipeline_model.specs.Compiling.Compiled.{Report, IsCompiled}
use Rattle.hz_pipeline_model.specs.Pipelines.Pipelines.{pipeline_with}
use Rattle.hz_pipeline_model.specs.Tables.Machines.{Machine, IsMachine, IsWalked}
use Rattle.hz_pipeline_model.proofs.Decidable.FlatLists.{in_flat_map, from_flat_map}
use Rattle.hz_block_model.specs.Running.Blocks.{Instruction}
use Rattle.hz_block_model.specs.Scheduling.Schedules.{Graph, Slot, present, Legal}
use Rattle.hz_block_model.specs.Scheduled.BlockGraphs.{classes_of, IsGraphOf}
use Rattle.hz_block_model.proofs.Scheduled.GraphLaws.{HasClass, all_have_classes}
use Rattle.hz_block_model.proofs.Schedulable.GraphTotal.{some_graph}
use Rattle.hz_measure_model.specs.Bounds.Paths.{greatest}
use Rattle.hz_measure_model.specs.Bounds.Loads.{ways, force, users, cycles_of_users, count, span}
use Rattle.hz_measure_model.specs.Kernels.Repeats.{timing_of_copies, Repeats}
use Rattle.hz_measure_model.specs.Kernels.Turns.{turns}
use Rattle.hz_measure_model.proofs.Bounds.BoundLaws.{greatest_below}
use Rattle.hz_measure_model.proofs.Bounds.LoadLaws.{count_all, count_below}
use Rattle.hz_measure_model.proofs.Bounds.Numbers.{greatest_above}
use Rattle.hz_measure_model.proofs.Kernels.CountLaws.{sum_repeat, no_more, present_turns}
use Rattle.hz_measure_model.proofs.Kernels.DescribedLaws.{classes_of_copies, accepted_legal}
use Rattle.hz_measure_model.proofs.Kernels.RangeOfClasses.{classes_within}

from_repeat : {X : Type 0} (n : ℕ) (xs : List X) (x : X) → Contains (repeat n xs) x → Contains xs x
from_repeat zero xs x there = absurd (Contains-nil x there)
from_repeat (suc n) xs x there = ⊎_elim (λ (c : Contains xs x). c) (λ (c : Contains (repeat n xs) x). from_repeat n xs x c) (Contains-append_cases xs (repeat n xs) x there)

all_repeat : {X : Type 0} (P : X → Type 0) (n : ℕ) (xs : List X) → All P xs → All P (repeat n xs)
all_repeat P zero xs all = All-nil P
all_repeat P (suc n) xs all = All-append P xs (repeat n xs) all (all_repeat P n xs all)

module _ (taken : ℕ → List (List ℕ)) (n : ℕ) (classes : List ℕ) where
  -- copies take a unit in no other cycles
  cycle_there : (c : ℕ) → Contains (cycles_of_users taken (repeat n classes)) c → Contains (cycles_of_users taken classes) c
  cycle_there c there =
      let (k, user, held) = from_flat_map (λ (k : ℕ). flat_map (λ (cs : List ℕ). cs) (taken k)) (users taken (repeat n classes)) c there in
      let (inside, passes) = Contains-from_filter (λ (k : ℕ). nat_lt 0 (force taken k)) k (repeat n classes) user in
      in_flat_map (λ (k : ℕ). flat_map (λ (cs : List ℕ). cs) (taken k)) (users taken classes) k c (Contains-filter (λ (k : ℕ). nat_lt 0 (force taken k)) k passes classes (from_repeat n classes k inside)) held

  span_low : span taken (repeat n classes) ≤ greatest (cycles_of_users taken classes)
  span_low =
      let low = greatest_below (cycles_of_users taken (repeat n classes)) (greatest (cycles_of_users taken classes)) (λ c there. greatest_above (cycles_of_users taken classes) c (cycle_there c there)) in
      omega (arith, low)

  counts : count taken (repeat n classes) ≡ n * count taken classes
  counts = count_all (force taken) (repeat n classes) ∙ (sum_repeat (force taken) n classes ∙ ap (λ (k : ℕ). n * k) (sym (count_all (force taken) classes)))

-- an interval that repeats has at least as many cycles as a turn takes of any unit
pub loads_below : (d : Description) (known : Known) (m : Machine) (reports : List Report) → IsSound d known → IsMachine m → IsCompiled d.options (automata_of d) (map (class_parts d known) d.classes) m reports
    → (body : List Instruction) (g : Graph) (slots : List Slot) → IsGraphOf d body g → Legal (IsWalked m) g slots → (interval first second : ℕ) → 1 ≤ interval → Repeats m body (timing_of_copies d body g 3) g slots interval first second
    → (u : UnitPlace) → count (ways (pipeline_with d known) u) (classes_of g) ≤ interval
loads_below d known m reports sound machine compiled body g slots graph legal interval first second some repeats u =
    no_more (count (ways (pipeline_with d known) u) (classes_of g)) interval (present 0 slots + greatest (cycles_of_users (ways (pipeline_with d known) u) (classes_of g)) + 1) each
  where
    each : (n : ℕ) → n * count (ways (pipeline_with d known) u) (classes_of g) ≤ n * interval + (present 0 slots + greatest (cycles_of_users (ways (pipeline_with d known) u) (classes_of g)) + 1)
    each n =
        let (h, copies) = some_graph d (repeat n body) (all_repeat (HasClass d) n body (all_have_classes d (classes_of g) body graph.classes)) in
        let whole = accepted_legal d m machine body g graph slots legal interval first second some repeats n h copies known sound reports compiled (classes_within d (repeat n body) h copies) in
        let room = count_below (pipeline_with d known) h (turns (length body) interval slots n) whole u in
        let same : classes_of h ≡ repeat n (classes_of g) = classes_of_copies d body n g h graph copies in
        let sum = ap (count (ways (pipeline_with d known) u)) same ∙ counts (ways (pipeline_with d known) u) n (classes_of g) in
        let low = subst (λ (cs : List ℕ). span (ways (pipeline_with d known) u) cs ≤ greatest (cycles_of_users (ways (pipeline_with d known) u) (classes_of g))) (sym same) (span_low (ways (pipeline_with d known) u) n (classes_of g)) in
        let last = present_turns (length body) interval slots n in
        omega (arith, room, sum, low, last)
