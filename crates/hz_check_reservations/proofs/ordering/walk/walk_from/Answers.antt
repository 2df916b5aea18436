use Rattle.std.proofs.Common.{◌≡◌, ℕ, ◌<◌, List, ◌++◌, ◌∷◌, [], length, reverse, subst, sym, ap, ◌∙◌, arith}
use Rattle.std.proofs.lemmas.List.{reverse-append, length-map, nil_from_length}
use Rattle.hz_check_reservations.specs.declared.ordering.walk.Frame.{Frame}
use Rattle.hz_check_reservations.specs.Graphs.{AreInside, ends_in}
use Rattle.hz_check_reservations.specs.Walks.{State, lists_of, state_of}
use Rattle.hz_check_reservations.proofs.Walking.{IsWalking, beginning, ending, frame_open, frame_within, stepping}
use Rattle.hz_check_reservations.proofs.WalkEnds.{work_left, stepping_falls}
use Rattle.hz_check_reservations.proofs.ordering.walk.walk_from.Goals as goal

-- the last frame is the first one of the state
popped : (old new : List Frame) (f : Frame) → old ≡ new ++ f ∷ [] → reverse old ≡ f ∷ reverse new
popped old new f e = ap reverse e ∙ reverse-append new (f ∷ [])

pub loop-frame-init : goal.loop-frame-init
loop-frame-init c =
    subst (IsWalking (ends_in (lists_of c.args.edges.now)) c.args.root (length c.args.edges.now)) (sym c.in_ok-walk.ensures) (beginning (ends_in (lists_of c.args.edges.now)) c.args.root (length c.args.edges.now) c.requires.root)

pub step-requires-clause-node : goal.step-requires-clause-node
step-requires-clause-node c =
    frame_within (ends_in (lists_of c.args.edges.now)) c.args.root (length c.args.edges.now) (state_of c.loop-frame.walk) c.in-Some.frame (reverse c.pop.new.self.items)
    (popped c.loop-frame.walk.frames.items c.pop.new.self.items c.in-Some.frame c.in-Some.ensures.items) c.loop-frame.invariant

pub loop-frame-preserved : goal.loop-frame-preserved
loop-frame-preserved c =
    subst (IsWalking (ends_in (lists_of c.args.edges.now)) c.args.root (length c.args.edges.now)) (sym c.in_ok-step.ensures)
    (stepping (lists_of c.args.edges.now) c.args.root (length c.args.edges.now) (state_of c.loop-frame.walk) c.in-Some.frame (reverse c.pop.new.self.items) c.requires.inside
    (popped c.loop-frame.walk.frames.items c.pop.new.self.items c.in-Some.frame c.in-Some.ensures.items) c.loop-frame.invariant)

pub loop-frame-smaller : goal.loop-frame-smaller
loop-frame-smaller c =
    let lists = lists_of c.args.edges.now in
    let s = state_of c.loop-frame.walk in
    let frames = reverse c.pop.new.self.items in
    let is = popped c.loop-frame.walk.frames.items c.pop.new.self.items c.in-Some.frame c.in-Some.ensures.items in
    let long = length-map c.args.edges.now (λ list. list.items) in
    let count = c.loop-frame.invariant.size in
    let size : length s.marks ≡ length lists = omega arith in
    let small = frame_within (ends_in lists) c.args.root (length c.args.edges.now) s c.in-Some.frame frames is c.loop-frame.invariant in
    subst (λ (t : State). work_left lists t < work_left lists s) (sym c.in_ok-step.ensures)
    (stepping_falls lists s c.in-Some.frame frames is size (subst (λ (n : ℕ). AreInside n lists) (sym long) c.requires.inside) (omega arith)
    (frame_open (ends_in lists) c.args.root (length c.args.edges.now) s c.in-Some.frame frames is c.loop-frame.invariant))

pub returns : goal.returns
returns c =
    ending (ends_in (lists_of c.args.edges.now)) c.args.root (length c.args.edges.now) (state_of c.loop-frame.walk) (ap reverse (nil_from_length c.loop-frame.walk.frames.items (omega (arith, c.in_default.ensures.cases.0)))) c.loop-frame.invariant
