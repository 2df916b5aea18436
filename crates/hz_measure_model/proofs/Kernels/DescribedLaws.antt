-- Turns of a body by a description: the classes of its copies, and what their turns keep.
use Rattle.std.proofs.Common.{◌≡◌, ℕ, ◌+◌, ◌*◌, ◌<◌, ◌≤◌, List, [], ◌∷◌, map, length, All, Contains, refl, sym, ap, ◌∙◌, subst, arith}
use Rattle.std.specs.Prelude.{slice_get, slice_index, unwrap_or, Option, Result, Ok}
use Rattle.std.specs.List.{repeat, range_with_len}
use Rattle.std.proofs.lemmas.Option.{unwrap_or-slice_get}
use Rattle.std.proofs.lemmas.List.{length-map}
use Rattle.hz_pipeline_model.specs.Accepting.Replay.{Accepted}
use Rattle.std.proofs.lemmas.List.Elements.{All-nil, All-cons}
use Rattle.hz_base_model.proofs.Elements.{Contains-head, Contains-tail}
use Rattle.hz_description_model.specs.Reading.Descriptions.{Description}
use Rattle.hz_description_model.specs.Reading.DescriptionShape.{IsCheckable}
use Rattle.hz_description_model.specs.Check.CheckFaults.{IsSound}
use Rattle.hz_description_model.specs.Check.CheckedParts.{BypassParts, automata_of, class_parts, bypass_parts}
use Rattle.hz_description_model.specs.Check.Places.{Known}
use Rattle.hz_pipeline_model.specs.Pipelines.Pipelines.{pipeline_with}
use Rattle.hz_pipeline_model.specs.Compiling.Compiled.{Report, IsCompiled}
use Rattle.hz_block_model.specs.Running.Blocks.{Instruction}
use Rattle.hz_block_model.specs.Running.States.{State, run}
use Rattle.hz_block_model.specs.Dependences.Classes.{ClassFault, number_where, timing_of}
use Rattle.hz_block_model.specs.Dependences.Stores.{stores_data_if}
use Rattle.hz_block_model.specs.Dependences.Graphs.{IsGraph}
use Rattle.hz_pipeline_model.specs.Tables.Machines.{Machine, machine_walk, IsMachine, IsWalked}
use Rattle.hz_block_model.specs.Scheduling.Machines.{Settles}
use Rattle.hz_block_model.specs.Scheduling.Schedules.{Node, Graph, Slot, places, present, spell, Legal}
use Rattle.hz_block_model.proofs.Scheduling.SlotLaws.{below_present}
use Rattle.hz_block_model.proofs.Settling.DescribedLaws.{legal_as_described}
use Rattle.hz_block_model.specs.Scheduled.BlockGraphs.{class_in, latencies_in, timing_in, classes_of, IsGraphOf}
use Rattle.hz_block_model.proofs.Scheduled.BlockLaws.{legal_keeps}
use Rattle.hz_block_model.proofs.Scheduled.GraphLaws.{as_many}
use Rattle.hz_block_model.proofs.Schedulable.CostLaws.{cost_small}
use Rattle.hz_measure_model.specs.Kernels.Turns.{repeated, turns, start, run_times}
use Rattle.hz_measure_model.specs.Kernels.Repeats.{timing_of_copies, KeepsCosts, Repeats, IsKernel}
use Rattle.hz_measure_model.proofs.Kernels.UnrollLaws.{length-repeat, get-repeat}
use Rattle.hz_measure_model.proofs.Kernels.DepLaws.{IsOfCopies}
use Rattle.hz_measure_model.proofs.Kernels.RepeatLaws.{map-repeat, for_ever}
use Rattle.hz_measure_model.proofs.Kernels.LegalLaws.{costs_of_turns, turns_legal, in_body}
use Rattle.hz_measure_model.proofs.Kernels.MeaningLaws.{copies_leave}
use Rattle.hz_measure_model.proofs.Kernels.KernelLaws.{long_repeats}
use Rattle.hz_measure_model.proofs.Kernels.LeastLaws.{some_kernel}

module _ (n k p size : ℕ) (lt : k < n) (low : p < size) where
  -- the item at a place of a copy of a list of this length
  get_of_copy : {X : Type 0} (xs : List X) → length xs ≡ size → slice_get (repeat n xs) (k * size + p) ≡ slice_get xs p
  get_of_copy {X} xs long = subst (λ (s : ℕ). p < s → slice_get (repeat n xs) (k * s + p) ≡ slice_get xs p) long (λ low. get-repeat n k p xs lt low) low

  -- the number of an item of a copy
  index_of_copy : (xs : List ℕ) → length xs ≡ size → slice_index (repeat n xs) (k * size + p) ≡ slice_index xs p
  index_of_copy xs long =
      sym (unwrap_or-slice_get (repeat n xs) (k * size + p) 0)
      ∙ (ap (λ (o : Option ℕ). unwrap_or o 0) (get_of_copy xs long)
      ∙ unwrap_or-slice_get xs p 0)

-- the timing of copies by their classes and their instructions
pub copies_are_timed : (latencies : List ℕ) (bypasses : List BypassParts) (classes : List ℕ) (body : List Instruction) (size n : ℕ) → length classes ≡ size → length body ≡ size
    → IsOfCopies size n (timing_of latencies bypasses classes body) (timing_of latencies bypasses (repeat n classes) (repeat n body))
copies_are_timed latencies bypasses classes body size n long many = record {
  latency = λ k p lt low. ap (slice_index latencies) (index_of_copy n k p size lt low classes long);
  number = λ k l p q lt less low inside. λ i.
      number_where bypasses (slice_index latencies (index_of_copy n k p size lt low classes long i))
      (stores_data_if (get_of_copy n k p size lt low body many i) (get_of_copy n l q size less inside body many i))
      (index_of_copy n k p size lt low classes long i) (index_of_copy n l q size less inside classes long i);
}

-- ---- classes of copies

abbrev good : ℕ → Result ℕ ClassFault
good class = Ok class

same_list : (xs ys : List ℕ) → map good xs ≡ map good ys → xs ≡ ys
same_list [] [] e = refl
same_list [] (y ∷ ys) e = absurd (cc)
same_list (x ∷ xs) [] e = absurd (cc)
same_list (x ∷ xs) (y ∷ ys) e = let rest = same_list xs ys (cc) in let first : x ≡ y = cc in cc

-- the classes of the copies of a body are copies of its classes
pub classes_of_copies : (d : Description) (body : List Instruction) (n : ℕ) (g h : Graph) → IsGraphOf d body g → IsGraphOf d (repeat n body) h → classes_of h ≡ repeat n (classes_of g)
classes_of_copies d body n g h graph copies =
    same_list (classes_of h) (repeat n (classes_of g))
    (copies.classes ∙ (map-repeat (class_in d) n body ∙ (ap (repeat n) (sym graph.classes) ∙ sym (map-repeat good n (classes_of g)))))

-- ---- turns of a kernel

module _ (d : Description) (m : Machine) (machine : IsMachine m) (body : List Instruction) (g : Graph) (graph : IsGraphOf d body g) (slots : List Slot) (legal : Legal (IsWalked m) g slots) where
  many : length g.nodes ≡ length body
  many = as_many d body g graph

  copies_timed : (n : ℕ) → IsOfCopies (length body) n (timing_in d (classes_of g) body) (timing_of_copies d body g n)
  copies_timed n = copies_are_timed (latencies_in d) (map (bypass_parts d) d.bypasses) (classes_of g) body (length body) n (length-map g.nodes (λ (node : Node). node.class) ∙ many) refl

  places_within : All (λ x. x.place < length g.nodes) slots
  places_within = each slots (λ y c. let low = in_body (IsWalked m) body (timing_in d (classes_of g) body) g graph.edges many slots legal y c in omega (arith, many))
    where
      each : (xs : List Slot) → ((y : Slot) → Contains xs y → y.place < length g.nodes) → All (λ x. x.place < length g.nodes) xs
      each [] h = All-nil (λ x. x.place < length g.nodes)
      each (x ∷ xs) h = All-cons (λ x. x.place < length g.nodes) x xs (h x (Contains-head x xs)) (each xs (λ y c. h y (Contains-tail x y xs c)))

  cycles_within : All (λ x. x.cycle ≤ present 0 slots) slots
  cycles_within = each slots (λ y c. below_present slots 0 legal.rising y c)
    where
      each : (xs : List Slot) → ((y : Slot) → Contains xs y → y.cycle ≤ present 0 slots) → All (λ x. x.cycle ≤ present 0 slots) xs
      each [] h = All-nil (λ x. x.cycle ≤ present 0 slots)
      each (x ∷ xs) h = All-cons (λ x. x.cycle ≤ present 0 slots) x xs (h x (Contains-head x xs)) (each xs (λ y c. h y (Contains-tail x y xs c)))

  module _ (interval first second : ℕ) (some : 1 ≤ interval) (repeats : Repeats m body (timing_of_copies d body g 3) g slots interval first second) where
    -- the machine walks every number of turns
    pub turns_walked : (count : ℕ) → IsWalked m (spell (repeated g count) (turns (length body) interval slots count))
    turns_walked count =
        subst (λ (size : ℕ). IsWalked m (spell (repeated g count) (turns size interval slots count))) many
        (for_ever m interval slots g places_within machine cycles_within (omega arith) first second repeats.settled repeats.before
        (subst (λ (size : ℕ). machine_walk m (start size interval slots g first) ≡ machine_walk m (start size interval slots g second)) (sym many) repeats.same)
        (λ n le. subst (λ (size : ℕ). IsWalked m (spell (repeated g n) (turns size interval slots n))) (sym many) (repeats.each n le))
        count)

    module _ (count : ℕ) (h : Graph) (copies : IsGraphOf d (repeat count body) h) where
      same_classes : classes_of h ≡ map (λ node. node.class) (repeated g count).nodes
      same_classes = classes_of_copies d body count g h graph copies ∙ sym (map-repeat (λ (node : Node). node.class) count g.nodes)

      -- they are a legal schedule of the copies, on the machine
      pub walked_legal : Legal (IsWalked m) h (turns (length body) interval slots count)
      walked_legal =
          turns_legal (IsWalked m) body (timing_in d (classes_of g) body) g graph.edges many slots legal interval count (timing_of_copies d body g count)
          (costs_of_turns (IsWalked m) body (timing_in d (classes_of g) body) g graph.edges many slots legal interval (timing_of_copies d body g 3) (timing_of_copies d body g count) count (copies_timed 3) (copies_timed count) repeats.costs)
          h
          (subst (λ (cs : List ℕ). IsGraph (repeat count body) (timing_in d cs (repeat count body)) h.edges) (classes_of_copies d body count g h graph copies) copies.edges)
          (as_many d (repeat count body) h copies ∙ length-repeat count body)
          same_classes
          (turns_walked count)

      -- and by what the description accepts
      pub accepted_legal : (known : Known) → IsSound d known → (reports : List Report) → IsCompiled d.options (automata_of d) (map (class_parts d known) d.classes) m reports → All (λ n. n.class < length d.classes) h.nodes → Legal (Accepted (pipeline_with d known)) h (turns (length body) interval slots count)
      accepted_legal known sound reports compiled ranges = (legal_as_described d known sound m reports compiled h ranges (turns (length body) interval slots count)).0 walked_legal

      -- and their order leaves what the body leaves, so many times
      pub turns_leave : (known : Known) → IsSound d known → (reports : List Report) → IsCompiled d.options (automata_of d) (map (class_parts d known) d.classes) m reports → All (λ n. n.class < length d.classes) h.nodes → (state : State) → run (repeat count body) (places (turns (length body) interval slots count)) state ≡ run_times body count state
      turns_leave known sound reports compiled ranges state =
          let keeps = legal_keeps d known (repeat count body) h (turns (length body) interval slots count) copies (accepted_legal known sound reports compiled ranges) in
          keeps.leaves state ∙ (ap (λ (n : ℕ). run (repeat count body) (range_with_len 0 n) state) (length-repeat count body) ∙ copies_leave body count state)

  -- ---- there is a kernel

  pub has_long : IsCheckable d → Settles m → All (λ n. n.class < length m.classes) g.nodes → Repeats m body (timing_of_copies d body g 3) g slots (present 0 slots + 1000) 0 1
  has_long formed settle ranges =
      long_repeats m machine settle body (timing_in d (classes_of g) body) (timing_of_copies d body g 3) g graph.edges many ranges slots legal (copies_timed 3)
      (λ i j e. cost_small d formed (repeat 3 body) (repeat 3 (classes_of g)) i j)

  pub has_kernel : IsCheckable d → Settles m → All (λ n. n.class < length m.classes) g.nodes → (i : ℕ) × (a : ℕ) × (b : ℕ) × IsKernel m body (timing_of_copies d body g 3) g slots i a b
  has_kernel formed settle ranges = some_kernel m body (timing_of_copies d body g 3) g slots (present 0 slots + 1000) 0 1 (omega arith) (has_long formed settle ranges)

-- three turns are enough
pub enough : (m : Machine) (d : Description) (body : List Instruction) (g : Graph) (slots : List Slot) → IsGraphOf d body g → Legal (IsWalked m) g slots → (interval count : ℕ)
    → KeepsCosts body (timing_of_copies d body g 3) interval slots 3 → KeepsCosts body (timing_of_copies d body g count) interval slots count
enough m d body g slots graph legal interval count keeps =
    costs_of_turns (IsWalked m) body (timing_in d (classes_of g) body) g graph.edges (as_many d body g graph) slots legal interval (timing_of_copies d body g 3) (timing_of_copies d body g count) count (timed 3) (timed count) keeps
  where
    timed : (n : ℕ) → IsOfCopies (length body) n (timing_in d (classes_of g) body) (timing_of_copies d body g n)
    timed n = copies_are_timed (latencies_in d) (map (bypass_parts d) d.bypasses) (classes_of g) body (length body) n (length-map g.nodes (λ (node : Node). node.class) ∙ as_many d body g graph) refl
