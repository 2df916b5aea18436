use Rattle.std.proofs.Common.{◌≡◌, ◌≤◌, ◌<◌, ◌+◌, ◌*◌, ◌^◌, ℕ, List, length, map, All, Contains, sym, ap, ◌∙◌, subst}
use Rattle.std.specs.Prelude.{slice_index}
use Rattle.std.proofs.lemmas.List.Elements.{All-map}
use Rattle.hz_block_model.specs.Scheduling.Schedules as model
use Rattle.hz_block_model.specs.Scheduling.Schedules.{present}
use Rattle.hz_description_model.specs.Reading.Limits.{latency_limit}
use Rattle.hz_measure_model.specs.Kernels.Repeats.{body_limit, stage_limit}
use Rattle.hz_measure_model.specs.Kernels.Turns.{stages}
use Rattle.hz_depend.specs.declared.parts.Edge.{Edge}
use Rattle.hz_depend.specs.declared.parts.GraphInsn.{GraphInsn}
use Rattle.hz_depend.specs.GraphShape.{edge_of}
use Rattle.hz_sched.specs.declared.parts.Slot.{Slot}
use Rattle.hz_sched.specs.Shape.{slots_of}
use Rattle.hz_tables.specs.Machines.{machine_of}
use Rattle.hz_modulo.specs.Walking as turns
use Rattle.hz_modulo.specs.Costs.{first_interval}
use Rattle.hz_modulo.specs.Heights.{LeavesRoom}
use Rattle.hz_modulo.specs.Kernels.{RepeatsIn, IsRoomyFrom}
use Rattle.hz_modulo.proofs.KernelLemmas.{ok_weaker, places_within, cycles_rise, cycles_once, last_small, cycles_small, many_in_block, many_classes, long_in, room_in, first_some, few_from, first_near, kernel_is}
use Rattle.hz_modulo.proofs.kernels.kernel.Goals as goal

pub cycles_of-requires-clause-small : goal.cycles_of-requires-clause-small
cycles_of-requires-clause-small c =
    subst (λ (xs : List Slot). All (λ x. x.cycle < 2 ^ 30) xs) (sym c.deref-2.ensures.value)
    (cycles_small c.args.machine.now c.args.checked.now c.args.block.now c.args.graph.now c.args.schedule.now.slots.items c.requires.graph c.requires.legal c.requires.few c.requires.soon)

pub first_interval-first-requires-clause-few : goal.first_interval-first-requires-clause-few
first_interval-first-requires-clause-few c =
    let size : length c.in_ok-cycles.cycles.items ≡ length c.args.graph.now.insns.items = c.in_ok-cycles.ensures.size ∙ (c.len.ensures ∙ c.args.graph.now.insns.ok.0) in
    subst (λ (xs : List ℕ). length xs ≤ body_limit) (sym c.deref-3.ensures.value)
    (subst (λ (n : ℕ). n ≤ body_limit) (sym (size ∙ many_in_block c.args.machine.now c.args.checked.now c.args.block.now c.args.graph.now c.args.schedule.now.slots.items c.requires.graph c.requires.legal)) c.requires.few)

pub first_interval-first-requires-clause-small : goal.first_interval-first-requires-clause-small
first_interval-first-requires-clause-small c = subst (λ (xs : List ℕ). All (λ k. k < 2 ^ 30) xs) (sym c.deref-3.ensures.value) c.in_ok-cycles.ensures.small

pub first_interval-first-requires-clause-inside : goal.first_interval-first-requires-clause-inside
first_interval-first-requires-clause-inside c =
    let size : length c.in_ok-cycles.cycles.items ≡ length c.args.graph.now.insns.items = c.in_ok-cycles.ensures.size ∙ (c.len.ensures ∙ c.args.graph.now.insns.ok.0) in
    subst (λ (xs : List ℕ). All (λ e. (e.from < e.to) × (e.to < 3 * length xs) × (e.cost ≤ latency_limit)) c.deref-4.result.now) (sym c.deref-3.ensures.value)
    (subst (λ (es : List Edge). All (λ e. (e.from < e.to) × (e.to < 3 * length c.in_ok-cycles.cycles.items) × (e.cost ≤ latency_limit)) es) (sym c.deref-4.ensures.value)
    (subst (λ (n : ℕ). All (λ e. (e.from < e.to) × (e.to < 3 * n) × (e.cost ≤ latency_limit)) c.in_ok-edges.edges.items) (sym (size ∙ many_in_block c.args.machine.now c.args.checked.now c.args.block.now c.args.graph.now c.args.schedule.now.slots.items c.requires.graph c.requires.legal)) c.in_ok-edges.ensures.inside))

pub first_with_room-requires-clause-settles : goal.first_with_room-requires-clause-settles
first_with_room-requires-clause-settles c = c.requires.settles

pub first_with_room-requires-clause-last : goal.first_with_room-requires-clause-last
first_with_room-requires-clause-last c = c.last_cycle-last.ensures ∙ ap (λ (xs : List Slot). present 0 (slots_of xs)) (sym c.deref-6.ensures.value)

pub first_with_room-requires-clause-some : goal.first_with_room-requires-clause-some
first_with_room-requires-clause-some c =
    let are : c.in_ok-classes.classes.items ≡ map (λ i. i.class) c.args.graph.now.insns.items = c.in_ok-classes.ensures ∙ ap (map (λ (i : GraphInsn). i.class)) c.deref.ensures.value in
    let last = c.last_cycle-last.ensures in
    let size : length c.in_ok-cycles.cycles.items ≡ length c.args.graph.now.insns.items = c.in_ok-cycles.ensures.size ∙ (c.len.ensures ∙ c.args.graph.now.insns.ok.0) in
    let reported = subst (λ (xs : List Slot). (x : model.Slot) → Contains (slots_of xs) x → slice_index c.in_ok-cycles.cycles.items x.place ≡ x.cycle) c.deref-2.ensures.value c.in_ok-cycles.ensures.reported in
    let first : c.first_interval-first.result ≡ first_interval (length c.in_ok-cycles.cycles.items) (slice_index c.in_ok-cycles.cycles.items) c.last_cycle-last.result (map edge_of c.in_ok-edges.edges.items) =
    c.first_interval-first.ensures ∙ (λ i. first_interval (length (c.deref-3.ensures.value i)) (slice_index (c.deref-3.ensures.value i)) c.last_cycle-last.result (map edge_of (c.deref-4.ensures.value i))) in
    first_some c.args.machine.now c.args.checked.now c.args.block.now c.args.graph.now c.args.schedule.now.slots.items c.requires.graph c.requires.legal c.requires.settles c.requires.schedulable c.in_ok-edges.edges.items c.in_ok-edges.ensures c.in_ok-classes.classes.items are c.in_ok-cycles.cycles.items size reported c.last_cycle-last.result c.first_interval-first.result last first

pub first_with_room-requires-clause-few : goal.first_with_room-requires-clause-few
first_with_room-requires-clause-few c =
    let are : c.in_ok-classes.classes.items ≡ map (λ i. i.class) c.args.graph.now.insns.items = c.in_ok-classes.ensures ∙ ap (map (λ (i : GraphInsn). i.class)) c.deref.ensures.value in
    let last = c.last_cycle-last.ensures in
    let size : length c.in_ok-cycles.cycles.items ≡ length c.args.graph.now.insns.items = c.in_ok-cycles.ensures.size ∙ (c.len.ensures ∙ c.args.graph.now.insns.ok.0) in
    let reported = subst (λ (xs : List Slot). (x : model.Slot) → Contains (slots_of xs) x → slice_index c.in_ok-cycles.cycles.items x.place ≡ x.cycle) c.deref-2.ensures.value c.in_ok-cycles.ensures.reported in
    let first : c.first_interval-first.result ≡ first_interval (length c.in_ok-cycles.cycles.items) (slice_index c.in_ok-cycles.cycles.items) c.last_cycle-last.result (map edge_of c.in_ok-edges.edges.items) =
    c.first_interval-first.ensures ∙ (λ i. first_interval (length (c.deref-3.ensures.value i)) (slice_index (c.deref-3.ensures.value i)) c.last_cycle-last.result (map edge_of (c.deref-4.ensures.value i))) in
    subst (λ (xs : List Slot). (interval : ℕ) → c.first_interval-first.result ≤ interval → stages interval (slots_of xs) ≤ stage_limit) (sym c.deref-6.ensures.value)
    (few_from c.args.machine.now c.args.checked.now c.args.block.now c.args.graph.now c.args.schedule.now.slots.items c.requires.graph c.requires.legal c.requires.settles c.requires.schedulable c.in_ok-edges.edges.items c.in_ok-edges.ensures c.in_ok-classes.classes.items are c.in_ok-cycles.cycles.items size reported c.last_cycle-last.result c.first_interval-first.result last first)

pub cycles_of-requires-clause-places : goal.cycles_of-requires-clause-places
cycles_of-requires-clause-places c =
    subst (λ (xs : List Slot). All (λ x. x.place < c.len.result) xs) (sym c.deref-2.ensures.value)
    (subst (λ (n : ℕ). All (λ x. x.place < n) c.args.schedule.now.slots.items) (sym (c.len.ensures ∙ c.args.graph.now.insns.ok.0))
    (places_within c.args.machine.now c.args.checked.now c.args.block.now c.args.graph.now c.args.schedule.now.slots.items c.requires.graph c.requires.legal))

pub cycles_of-requires-clause-once : goal.cycles_of-requires-clause-once
cycles_of-requires-clause-once c =
    subst (λ (xs : List Slot). (a b : model.Slot) → Contains (slots_of xs) a → Contains (slots_of xs) b → a.place ≡ b.place → a.cycle ≡ b.cycle) (sym c.deref-2.ensures.value)
    (cycles_once c.args.machine.now c.args.checked.now c.args.block.now c.args.graph.now c.args.schedule.now.slots.items c.requires.graph c.requires.legal)

pub first_with_room-requires-clause-classes : goal.first_with_room-requires-clause-classes
first_with_room-requires-clause-classes c =
    let are : c.in_ok-classes.classes.items ≡ map (λ i. i.class) c.args.graph.now.insns.items = c.in_ok-classes.ensures ∙ ap (map (λ (i : GraphInsn). i.class)) c.deref.ensures.value in
    subst (λ (xs : List ℕ). All (λ k. k < length c.args.machine.now.classes.items) xs) (sym (c.deref-5.ensures.value ∙ are))
    (All-map (λ k. k < length c.args.machine.now.classes.items) (λ (i : GraphInsn). i.class) c.args.graph.now.insns.items c.requires.schedulable.classes)

pub first_with_room-requires-clause-places : goal.first_with_room-requires-clause-places
first_with_room-requires-clause-places c =
    let are : c.in_ok-classes.classes.items ≡ map (λ i. i.class) c.args.graph.now.insns.items = c.in_ok-classes.ensures ∙ ap (map (λ (i : GraphInsn). i.class)) c.deref.ensures.value in
    let many = many_classes c.args.machine.now c.args.checked.now c.args.block.now c.args.graph.now c.args.schedule.now.slots.items c.requires.graph c.requires.legal c.requires.settles c.requires.schedulable c.in_ok-edges.edges.items c.in_ok-edges.ensures c.in_ok-classes.classes.items are in
    subst (λ (xs : List Slot). All (λ x. x.place < length c.deref-5.result.now) xs) (sym c.deref-6.ensures.value)
    (subst (λ (n : ℕ). All (λ x. x.place < n) c.args.schedule.now.slots.items) (sym (ap length c.deref-5.ensures.value ∙ many))
    (places_within c.args.machine.now c.args.checked.now c.args.block.now c.args.graph.now c.args.schedule.now.slots.items c.requires.graph c.requires.legal))

pub first_with_room-requires-clause-rising : goal.first_with_room-requires-clause-rising
first_with_room-requires-clause-rising c =
    let last = c.last_cycle-last.ensures in
    subst (λ (xs : List Slot). All (λ x. x.cycle ≤ c.last_cycle-last.result) (slots_of xs)) (sym c.deref-6.ensures.value)
    (subst (λ (n : ℕ). All (λ x. x.cycle ≤ n) (slots_of c.args.schedule.now.slots.items)) (sym last)
    (cycles_rise c.args.machine.now c.args.checked.now c.args.block.now c.args.graph.now c.args.schedule.now.slots.items c.requires.graph c.requires.legal))

pub first_with_room-requires-clause-small : goal.first_with_room-requires-clause-small
first_with_room-requires-clause-small c =
    let last = c.last_cycle-last.ensures in
    subst (λ (n : ℕ). n < 2 ^ 30) (sym last) (last_small c.args.machine.now c.args.checked.now c.args.block.now c.args.graph.now c.args.schedule.now.slots.items c.requires.graph c.requires.legal c.requires.few c.requires.soon)

pub first_with_room-requires-clause-near : goal.first_with_room-requires-clause-near
first_with_room-requires-clause-near c =
    let are : c.in_ok-classes.classes.items ≡ map (λ i. i.class) c.args.graph.now.insns.items = c.in_ok-classes.ensures ∙ ap (map (λ (i : GraphInsn). i.class)) c.deref.ensures.value in
    let last = c.last_cycle-last.ensures in
    let size : length c.in_ok-cycles.cycles.items ≡ length c.args.graph.now.insns.items = c.in_ok-cycles.ensures.size ∙ (c.len.ensures ∙ c.args.graph.now.insns.ok.0) in
    let reported = subst (λ (xs : List Slot). (x : model.Slot) → Contains (slots_of xs) x → slice_index c.in_ok-cycles.cycles.items x.place ≡ x.cycle) c.deref-2.ensures.value c.in_ok-cycles.ensures.reported in
    let first : c.first_interval-first.result ≡ first_interval (length c.in_ok-cycles.cycles.items) (slice_index c.in_ok-cycles.cycles.items) c.last_cycle-last.result (map edge_of c.in_ok-edges.edges.items) =
    c.first_interval-first.ensures ∙ (λ i. first_interval (length (c.deref-3.ensures.value i)) (slice_index (c.deref-3.ensures.value i)) c.last_cycle-last.result (map edge_of (c.deref-4.ensures.value i))) in
    first_near c.args.machine.now c.args.checked.now c.args.block.now c.args.graph.now c.args.schedule.now.slots.items c.requires.graph c.requires.legal c.requires.settles c.requires.schedulable c.in_ok-edges.edges.items c.in_ok-edges.ensures c.in_ok-classes.classes.items are c.in_ok-cycles.cycles.items size reported c.last_cycle-last.result c.first_interval-first.result last first

pub first_with_room-requires-clause-long : goal.first_with_room-requires-clause-long
first_with_room-requires-clause-long c =
    let are : c.in_ok-classes.classes.items ≡ map (λ i. i.class) c.args.graph.now.insns.items = c.in_ok-classes.ensures ∙ ap (map (λ (i : GraphInsn). i.class)) c.deref.ensures.value in
    let last = c.last_cycle-last.ensures in
    subst (λ (ks : List ℕ). RepeatsIn (machine_of c.args.machine.now) (turns.graph_of ks) (slots_of c.deref-6.result.now) (c.last_cycle-last.result + 1000) 0 1) (sym c.deref-5.ensures.value)
    (subst (λ (xs : List Slot). RepeatsIn (machine_of c.args.machine.now) (turns.graph_of c.in_ok-classes.classes.items) (slots_of xs) (c.last_cycle-last.result + 1000) 0 1) (sym c.deref-6.ensures.value)
    (long_in c.args.machine.now c.args.checked.now c.args.block.now c.args.graph.now c.args.schedule.now.slots.items c.requires.graph c.requires.legal c.requires.settles c.requires.schedulable c.in_ok-edges.edges.items c.in_ok-edges.ensures c.in_ok-classes.classes.items are c.last_cycle-last.result last))

pub first_with_room-requires-clause-room : goal.first_with_room-requires-clause-room
first_with_room-requires-clause-room c =
    let are : c.in_ok-classes.classes.items ≡ map (λ i. i.class) c.args.graph.now.insns.items = c.in_ok-classes.ensures ∙ ap (map (λ (i : GraphInsn). i.class)) c.deref.ensures.value in
    let last = c.last_cycle-last.ensures in
    subst (λ (ks : List ℕ). LeavesRoom (machine_of c.args.machine.now) ks (c.last_cycle-last.result + 1000)) (sym c.deref-5.ensures.value)
    (room_in c.args.machine.now c.args.checked.now c.args.block.now c.args.graph.now c.args.schedule.now.slots.items c.requires.graph c.requires.legal c.requires.settles c.requires.schedulable c.in_ok-edges.edges.items c.in_ok-edges.ensures c.in_ok-classes.classes.items are c.last_cycle-last.result last)

pub returns-clause-kernel : goal.returns-clause-kernel
returns-clause-kernel c =
    let are : c.in_ok-classes.classes.items ≡ map (λ i. i.class) c.args.graph.now.insns.items = c.in_ok-classes.ensures ∙ ap (map (λ (i : GraphInsn). i.class)) c.deref.ensures.value in
    let last = c.last_cycle-last.ensures in
    let size : length c.in_ok-cycles.cycles.items ≡ length c.args.graph.now.insns.items = c.in_ok-cycles.ensures.size ∙ (c.len.ensures ∙ c.args.graph.now.insns.ok.0) in
    let reported = subst (λ (xs : List Slot). (x : model.Slot) → Contains (slots_of xs) x → slice_index c.in_ok-cycles.cycles.items x.place ≡ x.cycle) c.deref-2.ensures.value c.in_ok-cycles.ensures.reported in
    let first : c.first_interval-first.result ≡ first_interval (length c.in_ok-cycles.cycles.items) (slice_index c.in_ok-cycles.cycles.items) c.last_cycle-last.result (map edge_of c.in_ok-edges.edges.items) =
    c.first_interval-first.ensures ∙ (λ i. first_interval (length (c.deref-3.ensures.value i)) (slice_index (c.deref-3.ensures.value i)) c.last_cycle-last.result (map edge_of (c.deref-4.ensures.value i))) in
    ok_weaker _ _ c.first_with_room.result (λ k x. kernel_is c.args.machine.now c.args.checked.now c.args.block.now c.args.graph.now c.args.schedule.now.slots.items c.requires.graph c.requires.legal c.requires.settles c.requires.schedulable c.in_ok-edges.edges.items c.in_ok-edges.ensures c.in_ok-classes.classes.items are c.in_ok-cycles.cycles.items size reported c.last_cycle-last.result c.first_interval-first.result last first k
    (subst (λ (ks : List ℕ). IsRoomyFrom (machine_of c.args.machine.now) ks (slots_of c.args.schedule.now.slots.items) c.first_interval-first.result k) c.deref-5.ensures.value
    (subst (λ (xs : List Slot). IsRoomyFrom (machine_of c.args.machine.now) c.deref-5.result.now (slots_of xs) c.first_interval-first.result k) c.deref-6.ensures.value x)))
    c.first_with_room.ensures.first

pub returns-clause-range : goal.returns-clause-range
returns-clause-range c =
    let are : c.in_ok-classes.classes.items ≡ map (λ i. i.class) c.args.graph.now.insns.items = c.in_ok-classes.ensures ∙ ap (map (λ (i : GraphInsn). i.class)) c.deref.ensures.value in
    let many = many_classes c.args.machine.now c.args.checked.now c.args.block.now c.args.graph.now c.args.schedule.now.slots.items c.requires.graph c.requires.legal c.requires.settles c.requires.schedulable c.in_ok-edges.edges.items c.in_ok-edges.ensures c.in_ok-classes.classes.items are in
    ok_weaker _ _ c.first_with_room.result (λ k x. subst (λ (n : ℕ). All (λ x. x.place < n) k.slots.items) (ap length c.deref-5.ensures.value ∙ many) x) c.first_with_room.ensures.range
