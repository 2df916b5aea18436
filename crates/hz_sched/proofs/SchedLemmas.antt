-- The board of a schedule, step by step.
use Rattle.std.proofs.Common.{◌≡◌, ℕ, suc, ◌+◌, ◌<◌, ◌≤◌, Bool, true, false, not, cond, List, [], ◌∷◌, ◌++◌, length, map, replicate, Option, Some, None, is_some, All, Contains, get_or, refl, sym, ap, ◌∙◌, subst, arith}
use Rattle.std.specs.Prelude.{slice_get, slice_index, position, nat_lt}
use Rattle.std.specs.Bool.{OnTrue, OnFalse}
use Rattle.std.specs.List.{find, position_or_len, AllPairs}
use Rattle.std.specs.Option.{option_map}
use Rattle.std.proofs.lemmas.List.{length-map, length-append}
use Rattle.std.proofs.lemmas.List.Elements.{All-get_or, All-contains, All-map, Contains-get_or}
use Rattle.std.proofs.lemmas.Option.{slice_get-get_or}
use Rattle.hz_base_model.proofs.Elements.{Contains-map}
use Rattle.hz_pipeline_model.specs.Accepting.Events.{Event, issue, advance}
use Rattle.hz_pipeline_model.specs.Tables.Machines.{advance_of, Part, Machine, no_part, part_at, parts_walk, machine_walk, starts_of, onto_states, word_of, IsPart, IsMachine, IsWalked}
use Rattle.hz_pipeline_model.proofs.Tables.TableLaws.{walk_stays}
use Rattle.hz_pipeline_model.proofs.Tables.MachineLaws.{machine_walk-each, machine_walk-part}
use Rattle.hz_replay.specs.Replaying.{Standing, AreStates}
use Rattle.hz_depend.specs.declared.parts.Graph as depend_graph
use Rattle.hz_depend.specs.GraphShape.{edge_of, IsSchedulable}
use Rattle.hz_base_model.specs.Limits.{cycle_limit}
use Rattle.hz_description_model.specs.Reading.Limits.{latency_limit}
use Rattle.hz_block_model.specs.Scheduling.Schedules.{Graph, Slot, class_at, present, GoesBefore, Greedy, IsCandidate}
use Rattle.hz_block_model.specs.Scheduling.Machines.{Settles, most_wait}
use Rattle.hz_block_model.proofs.Scheduling.SameSchedules.{greedy_within}
use Rattle.hz_sched.specs.Shape.{graph_of, node_of, slot_of, slots_of}
use Rattle.hz_sched.specs.declared.parts.Slot as made
use Rattle.hz_sched.specs.declared.board.Board.{Board}
use Rattle.hz_sched.specs.declared.queue.Queue.{Queue}
use Rattle.hz_sched.specs.Waits.{issued_at, and_issued}
use Rattle.hz_sched.specs.Standing.{IsAt, AllStart, left_below}
use Rattle.hz_sched.proofs.UpwardEdges.{IsUpward}
use Rattle.hz_sched.specs.Pending.{Key, key_of, keys_at, AreWaits, IsInRange, IsQueue, AreLater, IsBoard, may}
use Rattle.hz_block_model.proofs.Scheduling.SlotLaws.{present-push, below_present}
use Rattle.hz_sched.proofs.SlotLemmas.{left_less}
use Rattle.hz_sched.proofs.StandLemmas.{at_start, next_cycle, next_issue, now_issued, was_left, candidate_fits}
use Rattle.hz_sched.proofs.ComesLemmas.{some_comes}
use Rattle.hz_sched.proofs.BoardLemmas.{none_may, first_may, candidate_ready, classes_of_nodes}
use Rattle.hz_base_model.specs.Limits.{cycle_limit}

-- ---- states

-- what a machine walks to are states of its parts
pub walked_states : (m : Machine) → IsMachine m → (t : List Event) (states : List ℕ) → machine_walk m t ≡ Some states → AreStates m states
walked_states m is t states h = record { each = each; within = within }
  where
    each : length states ≡ length m.parts
    each = machine_walk-each m t states h

    within : (i : ℕ) → i < length m.parts → slice_index states i < length (part_at m i).rows
    within i lt =
        let part : Part = part_at m i in
        let kept : IsPart (length m.classes) part = All-get_or (IsPart (length m.classes)) m.parts i no_part lt is.parts in
        let here = machine_walk-part m t states h i part (slice_get-get_or m.parts i no_part lt) in
        let there : slice_get states i ≡ Some (get_or states i 0) = slice_get-get_or states i 0 (omega (arith, each)) in
        walk_stays part.rows (advance_of part) kept.table (Some 0) (λ s e. let same : 0 ≡ s = cc in subst (λ (n : ℕ). n < length part.rows) same (kept.table).start) (get_or states i 0) (word_of part t) (sym here ∙ there)

nothing_walked : (parts : List Part) → parts_walk parts (replicate (length parts) 0) [] ≡ Some (replicate (length parts) 0)
nothing_walked [] = refl
nothing_walked (part ∷ parts) = ap (onto_states (Some 0)) (nothing_walked parts)

-- ---- the board

pub board_start : (m : Machine) (g : Graph) (board : Board) (states : List ℕ) → board.slots.items ≡ [] → board.cycle ≡ 0 → states ≡ starts_of m → AreWaits g (issued_at []) board.counts.items board.ripes.items → IsQueue g (issued_at []) 0 board.queue → IsBoard m g board states
board_start m g board states none at_zero start waits queued =
    let slots : [] ≡ slots_of board.slots.items = ap slots_of (sym none) in
    record {
      at = subst (λ (ss : List ℕ). IsAt m g (slots_of board.slots.items) board.cycle ss) (sym start) (subst (λ (c : ℕ). IsAt m g (slots_of board.slots.items) c (starts_of m)) (sym at_zero) (subst (λ (xs : List Slot). IsAt m g xs 0 (starts_of m)) slots (at_start m g (nothing_walked m.parts))));
      waits = subst (λ (xs : List Slot). AreWaits g (issued_at xs) board.counts.items board.ripes.items) slots waits;
      queued = subst (λ (xs : List Slot). IsQueue g (issued_at xs) board.cycle board.queue) slots (subst (λ (c : ℕ). IsQueue g (issued_at []) c board.queue) (sym at_zero) queued);
    }

-- The instruction that is issued next.
pub record IsNext (m : Machine) (g : Graph) (board : Board) (place : ℕ) : Type 0 where
  pub may : IsCandidate (IsWalked m) g (slots_of board.slots.items) board.cycle place
  pub first : (j : ℕ) → IsCandidate (IsWalked m) g (slots_of board.slots.items) board.cycle j → GoesBefore g place j

module _ (m : Machine) (g : Graph) (board : Board) (states : List ℕ) (b : IsBoard m g board states) where
  -- the place that the queue of the board tells
  abbrev pub reported : List ℕ → Option ℕ
  reported seen = option_map (λ (k : Key). k.1) (find (λ (k : Key). may m g seen k.1) board.queue.heads.keys)

  module _ (later : AreLater board.cycle board.queue.waiting.keys) where
    pub is_next : (seen : List ℕ) → seen ≡ states → (place : ℕ) → Some place ≡ reported seen → IsNext m g board place
    is_next seen same place e =
        let found = first_may m g (slots_of board.slots.items) board.cycle states b.at board.queue.waiting.keys board.queue.ready.items board.queue.heads.keys b.queued later place (sym (e ∙ ap reported same)) in
        record { may = found.0; first = found.1 }

    pub none_next : (seen : List ℕ) → seen ≡ states → None ≡ reported seen → (j : ℕ) → IsCandidate (IsWalked m) g (slots_of board.slots.items) board.cycle j → ⊥
    none_next seen same e j c = none_may m g (slots_of board.slots.items) board.cycle states b.at board.queue.waiting.keys board.queue.ready.items board.queue.heads.keys b.queued later (sym (e ∙ ap reported same)) j c

    pub next_ready : (place : ℕ) → IsNext m g board place → Contains (keys_at board.queue.ready.items (class_at g place)) (key_of g place)
    next_ready place n = candidate_ready m g (slots_of board.slots.items) board.cycle states b.at board.queue.waiting.keys board.queue.ready.items board.queue.heads.keys b.queued later place n.may

  pub next_fits : (place : ℕ) → IsNext m g board place → is_some (parts_walk m.parts states (issue (class_at g place) ∷ [])) ≡ true
  next_fits place n = candidate_fits m g (slots_of board.slots.items) board.cycle states b.at place n.may

  module _ (place : ℕ) (n : IsNext m g board place) (next : List ℕ) (step : parts_walk m.parts states (issue (class_at g place) ∷ []) ≡ Some next)
      (new : Board) (slots : slots_of new.slots.items ≡ slots_of board.slots.items ++ record { place = place; cycle = board.cycle } ∷ []) (cycle : new.cycle ≡ board.cycle) where
    now : issued_at (slots_of new.slots.items) ≡ and_issued (issued_at (slots_of board.slots.items)) place board.cycle
    now = ap issued_at slots ∙ now_issued m g (slots_of board.slots.items) board.cycle states b.at place n.may n.first

    pub board_next : AreWaits g (and_issued (issued_at (slots_of board.slots.items)) place board.cycle) new.counts.items new.ripes.items → IsQueue g (and_issued (issued_at (slots_of board.slots.items)) place board.cycle) board.cycle new.queue → IsBoard m g new next
    board_next waits queued = record {
      at = subst (λ (c : ℕ). IsAt m g (slots_of new.slots.items) c next) (sym cycle) (subst (λ (xs : List Slot). IsAt m g xs board.cycle next) (sym slots) (next_issue m g (slots_of board.slots.items) board.cycle states b.at place n.may n.first next step));
      waits = subst (λ (f : ℕ → Option ℕ). AreWaits g f new.counts.items new.ripes.items) (sym now) waits;
      queued = subst (λ (f : ℕ → Option ℕ). IsQueue g f new.cycle new.queue) (sym now) (subst (λ (c : ℕ). IsQueue g (and_issued (issued_at (slots_of board.slots.items)) place board.cycle) c new.queue) (sym cycle) queued);
    }

    pub present_next : new.cycle ≡ present 0 (slots_of new.slots.items)
    present_next = cycle ∙ sym (ap (present 0) slots ∙ present-push 0 (slots_of board.slots.items) (record { place = place; cycle = board.cycle }))

    pub fewer_next : (count : ℕ) → count ≡ length g.nodes → suc (left_below (issued_at (slots_of new.slots.items)) count) ≡ left_below (issued_at (slots_of board.slots.items)) count
    fewer_next count all =
        ap (λ (f : ℕ → Option ℕ). suc (left_below f count)) now
        ∙ sym (left_less (issued_at (slots_of board.slots.items)) place board.cycle count (let within = (n.may).within in omega arith) (was_left m g (slots_of board.slots.items) board.cycle states b.at place n.may n.first))

  pub cycle_next : ((j : ℕ) → IsCandidate (IsWalked m) g (slots_of board.slots.items) board.cycle j → ⊥) → (next : List ℕ) → parts_walk m.parts states (advance 1 ∷ []) ≡ Some next → IsAt m g (slots_of board.slots.items) (board.cycle + 1) next
  cycle_next none next step = next_cycle m g (slots_of board.slots.items) board.cycle states b.at none next step

  -- an issue has come before
  pub never : Settles m → IsUpward g → All (λ n. n.class < length m.classes) g.nodes → AllStart m g → (count : ℕ) → count ≡ length g.nodes → 0 < left_below (issued_at (slots_of board.slots.items)) count → board.cycle ≡ present 0 (slots_of board.slots.items) + (most_wait + 1) → ⊥
  never settles upward ranges start count all some late =
      let left : 0 < left_below (issued_at (slots_of board.slots.items)) (length g.nodes) = subst (λ (n : ℕ). 0 < left_below (issued_at (slots_of board.slots.items)) n) all some in
      let (j, c) = some_comes m g settles upward ranges start.alone (slots_of board.slots.items) board.cycle states b.at left latency_limit cycle_limit (cycle_limit + 1) (present 0 (slots_of board.slots.items) + most_wait) refl refl (omega (arith, late)) (omega arith) in
      (b.at).barren (present 0 (slots_of board.slots.items) + most_wait) j (omega arith) (omega (arith, late)) c

-- the queue is another, which holds the same
pub queue_next : (m : Machine) (g : Graph) (board : Board) (states : List ℕ) (queue : Queue) → IsBoard m g board states → ((at : ℕ → Option ℕ) → IsQueue g at board.cycle board.queue → IsQueue g at board.cycle queue) → IsBoard m g (record board { queue = queue }) states
queue_next m g board states queue b holds = record { at = b.at; waits = b.waits; queued = holds (issued_at (slots_of board.slots.items)) b.queued }

pub queue_in_range : (g : Graph) (at : ℕ → Option ℕ) (cycle : ℕ) (queue : Queue) → IsQueue g at cycle queue → IsInRange g queue
queue_in_range g at cycle queue q = record {
  places = λ w h. ((q.waits w h).free).within;
  waiting_ordered = q.waiting_ordered;
  classes = q.classes;
  heads_ordered = (q.first).ordered;
}

-- a cycle later those that are ready are so too
pub queue_later : (g : Graph) (at : ℕ → Option ℕ) (cycle : ℕ) (queue : Queue) → IsQueue g at cycle queue → IsQueue g at (cycle + 1) queue
queue_later g at cycle queue q = record {
  done = q.done;
  classes = q.classes;
  each = q.each;
  waiting_ordered = q.waiting_ordered;
  waits = q.waits;
  ready_ordered = q.ready_ordered;
  ready = λ class k h. let r = q.ready class k h in let early = r.waited in record { free = r.free; waited = omega arith; classed = r.classed; key = r.key };
  first = q.first;
}

-- an issue that fits is taken
pub is_taken : (m : Machine) (s : Standing) (next : List ℕ) (class k : ℕ) (b : Bool) → s.machine ≡ m → k ≡ class → OnTrue b (parts_walk (s.machine).parts s.states (issue k ∷ []) ≡ Some next) → OnFalse b (parts_walk (s.machine).parts s.states (issue k ∷ []) ≡ None)
    → is_some (parts_walk m.parts s.states (issue class ∷ [])) ≡ true → parts_walk m.parts s.states (issue class ∷ []) ≡ Some next
is_taken m s next class k b machine same taken refused fits = go b taken refused
  where
    walk : parts_walk (s.machine).parts s.states (issue k ∷ []) ≡ parts_walk m.parts s.states (issue class ∷ [])
    walk = ap (λ (x : Machine). parts_walk x.parts s.states (issue k ∷ [])) machine ∙ ap (λ (n : ℕ). parts_walk m.parts s.states (issue n ∷ [])) same

    go : (b : Bool) → OnTrue b (parts_walk (s.machine).parts s.states (issue k ∷ []) ≡ Some next) → OnFalse b (parts_walk (s.machine).parts s.states (issue k ∷ []) ≡ None) → parts_walk m.parts s.states (issue class ∷ []) ≡ Some next
    go true t r = sym walk ∙ t
    go false t r = let none = sym walk ∙ r in absurd (cc)

-- ---- slots

pub one_more_slot : (new old : List made.Slot) (x : Slot) → slots_of new ≡ slots_of old ++ x ∷ [] → length new ≡ length old + 1
one_more_slot new old x e = omega (arith, length-map new slot_of, length-map old slot_of, length-append (slots_of old) (x ∷ []), ap length e)

-- the places of greedy slots are of instructions
pub all_within : (m : Machine) (g : Graph) (slots : List made.Slot) (count : ℕ) → count ≡ length g.nodes → Greedy (IsWalked m) g (slots_of slots) → All (λ x. x.place < count) slots
all_within m g slots count all greedy k d lt =
    let x = get_or slots k d in
    let below = All-contains (λ (y : Slot). y.place < length g.nodes) (slots_of slots) (slot_of x) (greedy_within (IsWalked m) g (slots_of slots) greedy) (Contains-map slot_of slots x (Contains-get_or slots k d lt)) in
    omega (arith, all, below)

-- where cycles don't fall, none is above that of the last
pub all_soon : (slots : List made.Slot) (limit : ℕ) → AllPairs (λ x y. x.cycle ≤ y.cycle) (slots_of slots) → present 0 (slots_of slots) ≤ limit → All (λ x. x.cycle ≤ limit) slots
all_soon slots limit rising last k d lt =
    let x = get_or slots k d in
    let low = below_present (slots_of slots) 0 rising (slot_of x) (Contains-map slot_of slots x (Contains-get_or slots k d lt)) in
    omega (arith, low, last)

-- ---- what is asked of the graph

pub upward_of : (classes : ℕ) (g : depend_graph.Graph) → IsSchedulable classes g → IsUpward (graph_of g)
upward_of classes g is = record {
  upward = λ e there. let u = All-contains (λ e. (e.from < e.to) × (e.to < length g.insns.items) × (e.cost ≤ latency_limit)) (map edge_of g.edges.items) e (All-map (λ e. (e.from < e.to) × (e.to < length g.insns.items) × (e.cost ≤ latency_limit)) edge_of g.edges.items is.edges) there in
      let long = length-map g.insns.items node_of in
      (u.0, omega (arith, u.1, long), u.2);
}

pub ranges_of : (classes : ℕ) (g : depend_graph.Graph) → IsSchedulable classes g → All (λ n. n.class < classes) (graph_of g).nodes
ranges_of classes g is = classes_of_nodes classes g.insns.items is.classes

-- ---- the first that can't start

module _ {X Y : Type 0} (f : X → Y) (p : Y → Bool) where
  front-map : (xs : List X) → position_or_len p (map f xs) ≡ position_or_len (λ x. p (f x)) xs
  front-map [] = refl
  front-map (x ∷ xs) = go (p (f x)) (front-map xs)
    where
      go : (b : Bool) → position_or_len p (map f xs) ≡ position_or_len (λ x. p (f x)) xs → cond (not b) (1 + position_or_len p (map f xs)) 0 ≡ cond (not b) (1 + position_or_len (λ x. p (f x)) xs) 0
      go true h = refl
      go false h = ap (λ (n : ℕ). 1 + n) h

  pub position-map : (xs : List X) → position p (map f xs) ≡ position (λ x. p (f x)) xs
  position-map xs =
      ap (λ (k : ℕ). cond (nat_lt k (length (map f xs))) (Some k) None) (front-map xs)
      ∙ ap (λ (n : ℕ). cond (nat_lt (position_or_len (λ x. p (f x)) xs) n) (Some (position_or_len (λ x. p (f x)) xs)) None) (length-map xs f)
