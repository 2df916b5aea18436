-- The kernel that is found is the kernel of the block.
use Rattle.std.proofs.Common.{◌≡◌, ℕ, ◌+◌, ◌*◌, ◌/◌, ◌<◌, ◌≤◌, cond, max, true, List, [], ◌∷◌, map, length, All, Contains, refl, sym, ap, ◌∙◌, subst, arith}
use Rattle.std.specs.Prelude.{slice_index, nat_lt, ◌↔◌, Result, Ok, Err, IfOk, ◌^◌}
use Rattle.std.specs.List.{repeat}
use Rattle.std.proofs.lemmas.List.{length-map}
use Rattle.std.proofs.lemmas.List.Elements.{All-head, All-tail, All-weaker, All-map, All-contains, All-contains_itself}
use Rattle.hz_base_model.proofs.Elements.{Contains-map}
use Rattle.hz_description_model.specs.Reading.Limits.{latency_limit}
use Rattle.hz_pipeline_model.specs.Tables.Machines.{IsWalked}
use Rattle.hz_block_model.specs.Dependences.Dependences.{depends, cost, Timing}
use Rattle.hz_block_model.specs.Dependences.Graphs as graphs
use Rattle.hz_block_model.specs.Dependences.Orders.{IsOrder}
use Rattle.hz_block_model.proofs.Dependences.UpwardLaws.{upwards}
use Rattle.hz_block_model.specs.Scheduling.Machines.{Settles, most_wait}
use Rattle.hz_block_model.specs.Scheduling.Schedules as model
use Rattle.hz_block_model.specs.Scheduling.Schedules.{places, present, Legal}
use Rattle.hz_block_model.specs.Scheduled.BlockGraphs.{classes_of}
use Rattle.hz_measure_model.specs.Kernels.Turns.{stages}
use Rattle.hz_measure_model.specs.Kernels.Repeats.{KeepsCosts, stage_limit, Repeats}
use Rattle.hz_measure_model.proofs.Kernels.CostLaws as costs
use Rattle.hz_measure_model.proofs.Kernels.DepLaws.{IsOfCopies}
use Rattle.hz_measure_model.proofs.Kernels.DescribedLaws.{copies_are_timed}
use Rattle.hz_measure_model.proofs.Kernels.FoundLaws.{fit_exactly, found_kernel}
use Rattle.hz_measure_model.proofs.Kernels.KernelLaws.{long_repeats}
use Rattle.hz_measure_model.proofs.Kernels.LegalLaws.{in_body, by_place, in_time}
use Rattle.hz_measure_model.proofs.Kernels.SameGraphs.{repeats_there}
use Rattle.hz_tables.specs.declared.machine.Machine.{Machine}
use Rattle.hz_tables.specs.Machines.{machine_of}
use Rattle.hz_checked.specs.declared.checked.Checked.{Checked}
use Rattle.hz_checked.specs.Shape.{bypass_of}
use Rattle.hz_rtl.specs.declared.block.Block.{Block}
use Rattle.hz_rtl.specs.declared.block.Insn.{Insn}
use Rattle.hz_rtl.specs.Shape.{instruction, instructions}
use Rattle.hz_depend.specs.declared.parts.Graph.{Graph}
use Rattle.hz_depend.specs.declared.parts.GraphInsn.{GraphInsn}
use Rattle.hz_depend.specs.declared.parts.Edge.{Edge}
use Rattle.hz_depend.specs.GraphShape.{edge_of, latencies_of, timing_in, IsGraphOf, IsSchedulable}
use Rattle.hz_sched.specs.declared.parts.Slot.{Slot}
use Rattle.hz_sched.specs.Shape.{node_of, graph_of, slot_of, slots_of}
use Rattle.hz_modulo.specs.Walking as turns
use Rattle.hz_modulo.proofs.RepeatLemmas.{repeats_as_defined, repeats_by_kernel}
use Rattle.hz_modulo.specs.Costs.{timing_of_copies, AreTurnEdges, least_for, least_of, first_interval}
use Rattle.hz_measure_model.proofs.Kernels.HeightLaws.{heights_below}
use Rattle.hz_modulo.specs.Heights.{LeavesRoom}
use Rattle.hz_modulo.specs.Kernels.{RepeatsIn, IsRoomyFrom, IsKernelOf}
use Rattle.hz_modulo.specs.declared.parts.Kernel.{Kernel}

all_of : {X : Type 0} (P : X → Type 0) (xs : List X) → ((x : X) → Contains xs x → P x) → All P xs
all_of P xs h = All-weaker (Contains xs) P h xs (All-contains_itself xs)

same_least : (size : ℕ) (cycle : ℕ → ℕ) (edges : List graphs.Edge) → least_of size cycle edges ≡ costs.least_of size cycle edges
same_least size cycle [] = refl
same_least size cycle (e ∷ edges) = λ i. cond (nat_lt (e.from / size) (e.to / size)) (max (least_for size cycle e) (same_least size cycle edges i)) (same_least size cycle edges i)

same_classes_of : (insns : List GraphInsn) → map {A = model.Node} (λ n. n.class) (map node_of insns) ≡ map (λ n. n.class) (map turns.node_of (map (λ i. i.class) insns))
same_classes_of [] = refl
same_classes_of (i ∷ insns) = ap (λ (cs : List ℕ). i.class ∷ cs) (same_classes_of insns)

same_numbers : (insns : List GraphInsn) → map {A = model.Node} (λ n. n.class) (map node_of insns) ≡ map (λ i. i.class) insns
same_numbers [] = refl
same_numbers (i ∷ insns) = ap (λ (cs : List ℕ). i.class ∷ cs) (same_numbers insns)

pub ok_weaker : {T E : Type 0} (P Q : T → Type 0) (r : Result T E) → ((x : T) → P x → Q x) → IfOk r P → IfOk r Q
ok_weaker P Q (Ok x) h p = h x p
ok_weaker P Q (Err e) h p = p

-- the last cycle is no later than all
pub present_low : (slots : List Slot) (cycle most : ℕ) → cycle ≤ most → All (λ x. x.cycle ≤ most) slots → present cycle (slots_of slots) ≤ most
present_low [] cycle most le all = le
present_low (x ∷ slots) cycle most le all = present_low slots x.cycle most (All-head (λ x. x.cycle ≤ most) x slots all) (All-tail (λ x. x.cycle ≤ most) x slots all)

module _ (machine : Machine) (checked : Checked) (block : Block) (graph : Graph) (slots : List Slot)
    (is : IsGraphOf checked block graph) (legal : Legal (IsWalked (machine_of machine)) (graph_of graph) (slots_of slots)) where
  abbrev t : Timing
  t = timing_in checked (map (λ i. i.class) graph.insns.items) (instructions block)

  many_insns : length graph.insns.items ≡ length (instructions block)
  many_insns =
      sym (length-map graph.insns.items (λ (i : GraphInsn). i.number))
      ∙ (ap length is.numbers
      ∙ (length-map block.insns.items (λ (i : Insn). i.number)
      ∙ sym (length-map block.insns.items instruction)))

  many : length (graph_of graph).nodes ≡ length (instructions block)
  many = length-map graph.insns.items node_of ∙ many_insns

  in_block : (y : model.Slot) → Contains (slots_of slots) y → y.place < length (instructions block)
  in_block = in_body (IsWalked (machine_of machine)) (instructions block) t (graph_of graph) is.edges many (slots_of slots) legal

  soon : (y : model.Slot) → Contains (slots_of slots) y → y.cycle ≤ present 0 (slots_of slots)
  soon = in_time (IsWalked (machine_of machine)) (instructions block) t (graph_of graph) is.edges many (slots_of slots) legal

  pub places_within : All (λ x. x.place < length graph.insns.items) slots
  places_within = all_of (λ x. x.place < length graph.insns.items) slots (λ x there. let low = in_block (slot_of x) (Contains-map slot_of slots x there) in let same = many_insns in omega (arith, low, same))

  -- the last cycle is small
  pub last_small : length block.insns.items ≤ 256 → All (λ x. x.cycle ≤ most_wait * length graph.insns.items) slots → present 0 (slots_of slots) < 2 ^ 30
  last_small few all =
      let low = present_low slots 0 (most_wait * length graph.insns.items) (omega arith) all in
      let many = many_insns in
      let size = length-map block.insns.items instruction in
      omega (arith, low, many, size, few)

  -- all cycles are small
  pub cycles_small : length block.insns.items ≤ 256 → All (λ x. x.cycle ≤ most_wait * length graph.insns.items) slots → All (λ x. x.cycle < 2 ^ 30) slots
  cycles_small few all = All-weaker (λ x. x.cycle ≤ most_wait * length graph.insns.items) (λ x. x.cycle < 2 ^ 30) (λ x le. let many = many_insns in let size = length-map block.insns.items instruction in omega (arith, le, many, size, few)) slots all

  pub many_in_block : length graph.insns.items ≡ length block.insns.items
  many_in_block = many_insns ∙ length-map block.insns.items instruction

  pub cycles_rise : All (λ x. x.cycle ≤ present 0 (slots_of slots)) (slots_of slots)
  cycles_rise = all_of (λ x. x.cycle ≤ present 0 (slots_of slots)) (slots_of slots) soon

  pub cycles_once : (a b : model.Slot) → Contains (slots_of slots) a → Contains (slots_of slots) b → a.place ≡ b.place → a.cycle ≡ b.cycle
  cycles_once a b here there e = ap (λ (x : model.Slot). x.cycle) (by_place (IsWalked (machine_of machine)) (instructions block) t (graph_of graph) is.edges many (slots_of slots) legal a b here there e)

  order : IsOrder (length (instructions block)) (places (slots_of slots))
  order = subst (λ (n : ℕ). IsOrder n (places (slots_of slots))) many legal.order

  of_three : IsOfCopies (length (instructions block)) 3 t (timing_of_copies checked block graph 3)
  of_three = copies_are_timed (latencies_of checked) (map bypass_of checked.bypasses.items) (map (λ i. i.class) graph.insns.items) (instructions block) (length (instructions block)) 3
      (length-map graph.insns.items (λ (i : GraphInsn). i.class) ∙ many_insns) refl

  module _ (settle : Settles (machine_of machine)) (able : IsSchedulable (length machine.classes.items) graph) (edges : List Edge) (turn : AreTurnEdges checked block graph edges) where
    ranges : All (λ n. n.class < length machine.classes.items) (graph_of graph).nodes
    ranges = All-map (λ n. n.class < length machine.classes.items) node_of graph.insns.items able.classes

    small : (i j : ℕ) → depends (repeat 3 (instructions block)) i j ≡ true → cost (repeat 3 (instructions block)) (timing_of_copies checked block graph 3) i j ≤ 1000
    small i j depending =
        let (up, inside) = upwards (repeat 3 (instructions block)) i j depending in
        let there = turn.each.each i j (omega (arith, up, inside)) inside depending in
        All-contains (λ e. e.cost ≤ 1000) (map edge_of edges) (graphs.edge (repeat 3 (instructions block)) (timing_of_copies checked block graph 3) i j)
        (All-map (λ e. e.cost ≤ 1000) edge_of edges (All-weaker (λ (e : Edge). (e.from < e.to) × (e.to < 3 * length block.insns.items) × (e.cost ≤ latency_limit)) (λ e. e.cost ≤ 1000) (λ e h. h.2) edges turn.inside))
        there

    -- the long interval repeats
    long : Repeats (machine_of machine) (instructions block) (timing_of_copies checked block graph 3) (graph_of graph) (slots_of slots) (present 0 (slots_of slots) + 1000) 0 1
    long = long_repeats (machine_of machine) machine.kept settle (instructions block) t (timing_of_copies checked block graph 3) (graph_of graph) is.edges many ranges (slots_of slots) legal of_three small

    module _ (classes : List ℕ) (are : classes ≡ map (λ i. i.class) graph.insns.items) where
      same_nodes : classes_of (graph_of graph) ≡ classes_of (turns.graph_of classes)
      same_nodes = same_classes_of graph.insns.items ∙ ap (λ (cs : List ℕ). classes_of (turns.graph_of cs)) (sym are)

      pub many_classes : length classes ≡ length graph.insns.items
      many_classes = ap length are ∙ length-map graph.insns.items (λ (i : GraphInsn). i.class)

      many_nodes : length (turns.graph_of classes).nodes ≡ length (instructions block)
      many_nodes = length-map classes turns.node_of ∙ (many_classes ∙ many_insns)

      within : All (λ x. x.place < length (turns.graph_of classes).nodes) (slots_of slots)
      within = all_of (λ x. x.place < length (turns.graph_of classes).nodes) (slots_of slots) (λ x there. let low = in_block x there in let same = many_nodes in omega (arith, low, same))

      by_kernel : (interval : ℕ) → 1 ≤ interval → (a b : ℕ) → Repeats (machine_of machine) (instructions block) (timing_of_copies checked block graph 3) (graph_of graph) (slots_of slots) interval a b → RepeatsIn (machine_of machine) (turns.graph_of classes) (slots_of slots) interval a b
      by_kernel interval some a b r =
          repeats_by_kernel (machine_of machine) machine.kept (turns.graph_of classes) (slots_of slots) within cycles_rise interval some (instructions block) many_nodes (timing_of_copies checked block graph 3) a b
          (repeats_there (machine_of machine) (instructions block) (timing_of_copies checked block graph 3) (graph_of graph) (turns.graph_of classes) (slots_of slots) same_nodes interval a b r)

      as_defined : (interval : ℕ) → 1 ≤ interval → stages interval (slots_of slots) ≤ stage_limit → KeepsCosts (instructions block) (timing_of_copies checked block graph 3) interval (slots_of slots) 3 → (a b : ℕ)
          → RepeatsIn (machine_of machine) (turns.graph_of classes) (slots_of slots) interval a b → Repeats (machine_of machine) (instructions block) (timing_of_copies checked block graph 3) (graph_of graph) (slots_of slots) interval a b
      as_defined interval some few keeps a b r =
          repeats_there (machine_of machine) (instructions block) (timing_of_copies checked block graph 3) (turns.graph_of classes) (graph_of graph) (slots_of slots) (sym same_nodes) interval a b
          (repeats_as_defined (machine_of machine) machine.kept (turns.graph_of classes) (slots_of slots) within cycles_rise interval some (instructions block) many_nodes (timing_of_copies checked block graph 3) a b few keeps r)

      all_classes : classes_of (graph_of graph) ≡ classes
      all_classes = same_numbers graph.insns.items ∙ sym are

      -- an interval that repeats leaves room for what turns ask
      leaves : (interval : ℕ) → 1 ≤ interval → (a b : ℕ) → Repeats (machine_of machine) (instructions block) (timing_of_copies checked block graph 3) (graph_of graph) (slots_of slots) interval a b → LeavesRoom (machine_of machine) classes interval
      leaves interval some a b r =
          subst (λ (cs : List ℕ). LeavesRoom (machine_of machine) cs interval) all_classes (record {
            room = λ part there weight share height are.
                heights_below (machine_of machine) machine.kept (instructions block) t (graph_of graph) is.edges many (slots_of slots) legal (timing_of_copies checked block graph 3) interval a b some r part there weight share height are;
          })

      -- so does the long one
      pub room_in : (last : ℕ) → last ≡ present 0 (slots_of slots) → LeavesRoom (machine_of machine) classes (last + 1000)
      room_in last e = subst (λ (n : ℕ). LeavesRoom (machine_of machine) classes (n + 1000)) (sym e) (leaves (present 0 (slots_of slots) + 1000) (omega arith) 0 1 long)

      pub long_in : (last : ℕ) → last ≡ present 0 (slots_of slots) → RepeatsIn (machine_of machine) (turns.graph_of classes) (slots_of slots) (last + 1000) 0 1
      long_in last e = subst (λ (n : ℕ). RepeatsIn (machine_of machine) (turns.graph_of classes) (slots_of slots) (n + 1000) 0 1) (sym e) (by_kernel (present 0 (slots_of slots) + 1000) (omega arith) 0 1 long)

      module _ (cycles : List ℕ) (size : length cycles ≡ length graph.insns.items) (reported : (x : model.Slot) → Contains (slots_of slots) x → slice_index cycles x.place ≡ x.cycle)
          (last first : ℕ) (last_is : last ≡ present 0 (slots_of slots)) (first_is : first ≡ first_interval (length cycles) (slice_index cycles) last (map edge_of edges)) where
        first_least : first ≡ max (present 0 (slots_of slots) / (stage_limit + 1) + 1) (costs.least_of (length (instructions block)) (slice_index cycles) (map edge_of edges))
        first_least =
            first_is
            ∙ ((λ i. max (last_is i / (stage_limit + 1) + 1) (least_of ((size ∙ many_insns) i) (slice_index cycles) (map edge_of edges)))
            ∙ ap (max (present 0 (slots_of slots) / (stage_limit + 1) + 1)) (same_least (length (instructions block)) (slice_index cycles) (map edge_of edges)))

        fit : (interval : ℕ) → 1 ≤ interval → ((stages interval (slots_of slots) ≤ stage_limit) × KeepsCosts (instructions block) (timing_of_copies checked block graph 3) interval (slots_of slots) 3) ↔ (max (present 0 (slots_of slots) / (stage_limit + 1) + 1) (costs.least_of (length (instructions block)) (slice_index cycles) (map edge_of edges)) ≤ interval)
        fit = fit_exactly (machine_of machine) (instructions block) (timing_of_copies checked block graph 3) (graph_of graph) (slots_of slots) order soon (slice_index cycles) reported (map edge_of edges) turn.each (present 0 (slots_of slots) + 1000) long.costs

        pub first_some : 1 ≤ first
        first_some = let e = first_least in omega (arith, e)

        pub few_from : (interval : ℕ) → first ≤ interval → stages interval (slots_of slots) ≤ stage_limit
        few_from interval le = let e = first_least in let some = first_some in ((fit interval (omega (arith, some, le))).1 (omega (arith, le, e))).0

        pub first_near : first ≤ last + 1000
        first_near =
            let e = first_least in
            let le = (fit (present 0 (slots_of slots) + 1000) (omega arith)).0 (long.few, long.costs) in
            omega (arith, e, le, last_is)

        -- the first that repeats from there on, of those that leave room, is the kernel's
        pub kernel_is : (k : Kernel) → IsRoomyFrom (machine_of machine) classes (slots_of slots) first k → IsKernelOf machine checked block graph slots k
        kernel_is k x =
            let e = first_least in
            let from = x.from in
            let begin = first_some in
            let some : 1 ≤ k.interval = omega (arith, from, begin) in
            let kept = (fit k.interval some).1 (omega (arith, from, e)) in
            record {
              least = found_kernel (machine_of machine) (instructions block) (timing_of_copies checked block graph 3) (graph_of graph) (slots_of slots) order soon (slice_index cycles) reported (map edge_of edges) turn.each (present 0 (slots_of slots) + 1000) long.costs
                  k.interval k.first_edge k.second_edge some (as_defined k.interval some kept.0 kept.1 k.first_edge k.second_edge x.is.repeats)
                  (λ shorter low lt a b r. x.none shorter (omega (arith, low, e)) lt (leaves shorter (omega (arith, low)) a b r) a b (by_kernel shorter (omega (arith, low)) a b r));
              stages_are = x.is.stages_are;
              slots_are = x.is.slots_are;
            }
