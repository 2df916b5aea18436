use Rattle.std.proofs.Common.{◌≡◌, ◌<◌, ℕ, List, length, sym, ap, ◌∙◌, subst, arith}
use Rattle.std.proofs.lemmas.List.{length-map}
use Rattle.hz_block_model.specs.Scheduling.Schedules.{class_at}
use Rattle.hz_sched.specs.Shape.{graph_of, node_of}
use Rattle.hz_sched.specs.Pending.{Key, key_of, Wait, AreInRange, AreQueued}
use Rattle.hz_sched.proofs.QueueLemmas.{popped, front_within, range_next, ripened, later_when}
use Rattle.hz_sched.proofs.queue.Queue.ripen.Goals as goal

pub height_at-requires : goal.height_at-requires
height_at-requires c =
    let insns = c.args.graph.now.insns.items in
    omega (arith, length-map insns node_of, front_within (graph_of c.args.graph.now) c.args.cycle c.in-Some.place c.loop-place.self.waiting.keys c.loop-place.self.ready.items c.loop-place.self.heads.keys c.loop-place.invariant.range c.in-Some.ensures)

pub class_at-requires : goal.class_at-requires
class_at-requires c =
    let insns = c.args.graph.now.insns.items in
    omega (arith, length-map insns node_of, front_within (graph_of c.args.graph.now) c.args.cycle c.in-Some.place c.loop-place.self.waiting.keys c.loop-place.self.ready.items c.loop-place.self.heads.keys c.loop-place.invariant.range c.in-Some.ensures)

pub make_ready-requires-clause-class : goal.make_ready-requires-clause-class
make_ready-requires-clause-class c =
    let within = front_within (graph_of c.args.graph.now) c.args.cycle c.in-Some.place c.loop-place.self.waiting.keys c.loop-place.self.ready.items c.loop-place.self.heads.keys c.loop-place.invariant.range c.in-Some.ensures in
    subst (λ (n : ℕ). n < length c.loop-place.self.ready.items) (sym c.class_at.ensures) (c.loop-place.invariant.range.classes c.in-Some.place within)

pub loop-place-preserved : goal.loop-place-preserved
loop-place-preserved c =
    let g = graph_of c.args.graph.now in
    let was = c.loop-place.self in
    let now = c.make_ready.new.self in
    let key : Key = (record { 0 = c.height_at.result }, c.in-Some.place) in
    let found = popped c.args.cycle c.in-Some.place was.waiting.keys c.pop_first.new.self.keys c.pop_first.result c.pop_first.ensures.variant.1 c.pop_first.ensures.removal c.in-Some.ensures in
    let classed : c.class_at.result ≡ class_at g found.wait.1 = c.class_at.ensures ∙ ap (class_at g) (sym found.place) in
    let is = ap (λ (h : ℕ). let k : Key = (record { 0 = h }, c.in-Some.place) in k) c.height_at.ensures ∙ ap (key_of g) (sym found.place) in
    record {
      range = subst (λ (ws : List Wait). AreInRange g ws now.ready.items now.heads.keys) (sym c.in_ok-make_ready.ensures.waiting)
          (range_next g found.wait c.pop_first.new.self.keys c.class_at.result key was.ready.items now.ready.items was.heads.keys now.heads.keys c.in_ok-make_ready.ensures.row classed
          (subst (λ (ws : List Wait). AreInRange g ws was.ready.items was.heads.keys) found.was c.loop-place.invariant.range));
      queued = λ at q. subst (λ (ws : List Wait). AreQueued g at c.args.cycle ws now.ready.items now.heads.keys) (sym c.in_ok-make_ready.ensures.waiting)
          (ripened g found.wait c.pop_first.new.self.keys c.class_at.result key was.ready.items now.ready.items was.heads.keys now.heads.keys c.in_ok-make_ready.ensures.row classed at c.args.cycle is found.come
          (subst (λ (ws : List Wait). AreQueued g at c.args.cycle ws was.ready.items was.heads.keys) found.was (c.loop-place.invariant.queued at q)));
    }

pub returns-clause-later : goal.returns-clause-later
returns-clause-later c = later_when c.args.cycle c.loop-place.self.waiting.keys c.loop-place.invariant.range.waiting_ordered (sym c.next_ripe.ensures ∙ c.in_default.is)
