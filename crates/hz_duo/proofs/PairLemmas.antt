-- The slots of a joined graph, by their contexts.
use Rattle.std.proofs.Common.{◌≡◌, ℕ, ◌+◌, ◌-◌, ◌<◌, ◌≤◌, ⊎_elim, inl, inr, Bool, cond, List, length, get_or, All, sym, ap, ◌∙◌, subst, arith}
use Rattle.std.proofs.lemmas.Bool.{lt-ltb, le-ltb, cases_lt}
use Rattle.std.proofs.lemmas.List.{length-map, get_or-map}
use Rattle.hz_pipeline_model.specs.Tables.Machines.{Machine, IsWalked}
use Rattle.hz_block_model.specs.Scheduling.Schedules.{Graph, Slot, Legal, Greedy}
use Rattle.hz_depend.specs.declared.parts.Graph as depend
use Rattle.hz_sched.specs.declared.parts.Slot as made
use Rattle.hz_sched.specs.Shape.{node_of, graph_of, slot_of, slots_of}
use Rattle.hz_measure_model.specs.TwoContexts.Joining.{ContextSlot, joined, in_context, in_contexts}
use Rattle.hz_duo.specs.declared.parts.DuoSlot.{DuoSlot}
use Rattle.hz_duo.specs.Shape.{context_slot, IsPaired, IsDuoOf, IsOfEither, AreInRange}

pub is_duo : (m : Machine) (first second graph : depend.Graph) (all : List Slot) (slots : List DuoSlot) → graph_of graph ≡ joined (graph_of first) (graph_of second) → Legal (IsWalked m) (graph_of graph) all → Greedy (IsWalked m) (graph_of graph) all → IsPaired (length first.insns.items) all slots → IsDuoOf m (graph_of first) (graph_of second) slots
is_duo m first second graph all slots is legal greedy paired = record {
  all = all;
  legal = subst (λ (g : Graph). Legal (IsWalked m) g all) is legal;
  greedy = subst (λ (g : Graph). Greedy (IsWalked m) g all) is greedy;
  same = paired.same ∙ ap (λ (n : ℕ). in_contexts n all) (sym (length-map first.insns.items node_of));
}

-- where a slot of the joined graph stands
place_of : (n m : ℕ) (x : Slot) (y : DuoSlot) → x.place < n + m → context_slot y ≡ in_context n x → IsOfEither n m y
place_of n m x y low e = ⊎_elim
    (λ (lt : x.place < n).
    let is = e ∙ ap (λ (b : Bool). cond b (record { context = 1; place = x.place; cycle = x.cycle }) (record { context = 2; place = x.place - n; cycle = x.cycle })) (lt-ltb x.place n lt) in
    let place = ap (λ (z : ContextSlot). z.place) is in
    inl (ap (λ (z : ContextSlot). z.context) is, omega (arith, place, lt)))
    (λ (le : n ≤ x.place).
    let is = e ∙ ap (λ (b : Bool). cond b (record { context = 1; place = x.place; cycle = x.cycle }) (record { context = 2; place = x.place - n; cycle = x.cycle })) (le-ltb x.place n le) in
    let place = ap (λ (z : ContextSlot). z.place) is in
    inr (ap (λ (z : ContextSlot). z.context) is, omega (arith, place, le, low)))
    (cases_lt x.place n)

pub in_range : (n m : ℕ) (all : List made.Slot) (slots : List DuoSlot) → IsPaired n (slots_of all) slots → All (λ x. x.place < n + m) all → AreInRange n m slots
in_range n m all slots paired low k d lt =
    let same : length slots ≡ length all = let long = length-map slots context_slot in let many = length-map (slots_of all) (in_context n) in let of = length-map all slot_of in omega (arith, long, many, of, ap length paired.same) in
    let some : made.Slot = record { place = 0; cycle = 0 } in
    let there : k < length all = omega (arith, lt, same) in
    let mine = get_or-map context_slot slots k d (context_slot d) lt in
    let yours = get_or-map (in_context n) (slots_of all) k (slot_of some) (context_slot d) (omega (arith, there, length-map all slot_of)) in
    let of = get_or-map slot_of all k some (slot_of some) there in
    place_of n m (slot_of (get_or all k some)) (get_or slots k d) (low k some there)
    (sym mine ∙ (ap (λ (xs : List ContextSlot). get_or xs k (context_slot d)) paired.same ∙ (yours ∙ ap (in_context n) of)))
