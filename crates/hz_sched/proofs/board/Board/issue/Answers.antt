use Rattle.std.proofs.Common.{◌<◌, ◌≤◌, ℕ, List, length, map, Contains, sym, ap, ◌∙◌, subst, arith}
use Rattle.std.proofs.lemmas.List.{length-map}
use Rattle.std.proofs.lemmas.List.Elements.{All-map, All-contains}
use Rattle.hz_description_model.specs.Reading.Limits.{latency_limit}
use Rattle.hz_block_model.specs.Dependences.Graphs.{Edge}
use Rattle.hz_sched.specs.Rows.{edge_to}
use Rattle.hz_block_model.specs.Scheduling.Schedules.{class_at}
use Rattle.hz_sched.specs.Shape.{graph_of, slots_of, node_of}
use Rattle.hz_sched.specs.Waits.{issued_at, and_issued, leading}
use Rattle.std.specs.BTreeSet.{BTreeSet}
use Rattle.hz_sched.specs.declared.queue.Queue.{Queue}
use Rattle.hz_sched.specs.Pending.{Key, key_of, keys_at, all_wait, AreWaits, AreLater, AreQueued, IsQueue}
use Rattle.hz_sched.proofs.WaitLemmas.{edges_from}
use Rattle.hz_sched.proofs.RowLemmas.{row_all, wait_same}
use Rattle.hz_sched.proofs.QueueLemmas.{was_left, led_within, issued_queue}
use Rattle.hz_sched.proofs.board.Board.issue.Goals as goal

pub end_waits-requires-clause-unissued : goal.end_waits-requires-clause-unissued
end_waits-requires-clause-unissued c =
    let queue = c.args.self.now.queue in
    was_left (graph_of c.args.graph.now) (issued_at (slots_of c.args.self.now.slots.items)) c.args.place c.args.self.now.cycle queue.waiting.keys queue.ready.items queue.heads.keys c.requires.queued c.requires.later c.requires.ready

pub wait_after-requires-clause-within : goal.wait_after-requires-clause-within
wait_after-requires-clause-within c = λ k d lt.
    let n = length c.args.graph.now.insns.items in
    let e = row_all (λ e. (e.to < n) × (e.cost ≤ latency_limit)) c.args.place c.args.row.now c.args.graph.now.edges.items c.requires.row c.requires.edges k d lt in
    omega (arith, e.0, ap (λ (xs : List ℕ). length xs) c.deref.ensures.value, c.end_waits.ensures.waits.counts_size, length-map c.args.graph.now.insns.items node_of)

pub returns-clause-queued : goal.returns-clause-queued
returns-clause-queued c =
    let g = graph_of c.args.graph.now in
    let n = length c.args.graph.now.insns.items in
    let at = issued_at (slots_of c.args.self.now.slots.items) in
    let row = map (edge_to c.args.place) c.args.row.now in
    let whole = c.requires.row in
    let queue = c.end_waits.new.self.queue in
    let was = sym c.end_waits.ensures.queue in
    let queued = subst (λ (q : Queue). IsQueue g at c.args.self.now.cycle q) was c.requires.queued in
    let later = subst (λ (q : Queue). AreLater c.args.self.now.cycle q.waiting.keys) was c.requires.later in
    let ready = subst (λ (q : Queue). Contains (keys_at q.ready.items (class_at g c.args.place)) (key_of g c.args.place)) was c.requires.ready in
    let key : Key = (record { 0 = c.height_at.result }, c.args.place) in
    let is = ap (λ (h : ℕ). let k : Key = (record { 0 = h }, c.args.place) in k) c.height_at.ensures in
    let ended = c.end.new.self in
    let now = c.wait_after.new.self in
    let next = and_issued at c.args.place c.args.self.now.cycle in
    let waits = subst (λ (xs : List ℕ). AreWaits g next c.deref.result.now xs) (sym c.deref-2.ensures.value) (subst (λ (xs : List ℕ). AreWaits g next xs c.end_waits.new.self.ripes.items) (sym c.deref.ensures.value) c.end_waits.ensures.waits) in
    let edges = All-map (λ e. (e.to < n) × (e.cost ≤ latency_limit)) (edge_to c.args.place) c.args.row.now (row_all (λ e. (e.to < n) × (e.cost ≤ latency_limit)) c.args.place c.args.row.now c.args.graph.now.edges.items c.requires.row c.requires.edges) in
    let to_within = λ (e : Edge) (h : Contains row e). (let (to, cost) = All-contains (λ (f : Edge). (f.to < n) × (f.cost ≤ latency_limit)) row e edges h in let long = length-map c.args.graph.now.insns.items node_of in let fit : e.to < length g.nodes = omega (arith, to, long) in fit) in
    let within = subst (λ (es : List Edge). (j : ℕ) → 0 < leading j es → j < length g.nodes) whole (λ j led. led_within (length g.nodes) j row to_within led) in
    let more = c.in_ok-wait_after.ensures.waiting ∙ (sym (wait_same c.args.place c.deref.result.now c.deref-2.result.now c.args.row.now ended.waiting.keys) ∙ (ap (λ (es : List Edge). all_wait c.deref.result.now c.deref-2.result.now es ended.waiting.keys) whole ∙ ap (all_wait c.deref.result.now c.deref-2.result.now (edges_from c.args.place g.edges)) c.in_ok-end.ensures.waiting)) in
    let done = issued_queue g at c.args.place c.args.self.now.cycle queue.waiting.keys queue.ready.items queue.heads.keys queued later ready ended.ready.items ended.heads.keys key c.class_at.result is c.class_at.ensures c.in_ok-end.ensures.row
    c.deref.result.now c.deref-2.result.now waits within now.waiting.keys more c.in_ok-wait_after.ensures.ordered in
    subst (λ (hs : List Key). AreQueued g next c.args.self.now.cycle now.waiting.keys now.ready.items hs) (sym c.wait_after.ensures.heads)
    (subst (λ (rows : List (BTreeSet Key)). AreQueued g next c.args.self.now.cycle now.waiting.keys rows ended.heads.keys) (sym c.wait_after.ensures.ready) done)
