use Rattle.std.proofs.Common.{◌≡◌, ◌<◌, ◌≤◌, ◌+◌, ℕ, List, length, replicate, sym, ap, ◌∙◌, subst, arith}
use Rattle.std.proofs.lemmas.List.{length-map}
use Rattle.hz_tables.specs.Machines.{machine_of}
use Rattle.hz_tables.specs.Parts.{part_of}
use Rattle.hz_replay.specs.Replaying.{Standing, AreStates}
use Rattle.hz_replay.proofs.ReplayerLemmas.{starts_stand, zeros}
use Rattle.hz_replay.proofs.replayer.Replayer.start.Goals as goal

pub push_reserved-requires : goal.push_reserved-requires
push_reserved-requires c =
    let few = (c.args.machine.now.kept).few in
    let long = length-map c.args.machine.now.parts.items part_of in
    let states = ap (λ xs. length {A = ℕ} xs) c.loop-part.invariant.states ∙ zeros c.loop-part._part in
    let room = c.loop-part.invariant.room in
    let low = c.loop-part-test.true in
    let len = c.len-part-end.ensures in
    let all = (c.args.machine.now.parts.ok).0 in
    let short : length {A = ℕ} c.loop-part.states.items + 1 ≤ c.loop-part.states.capacity = omega (arith, few, long, states, room, low, len, all) in
    let size : 80 < 9223372036854775808 = omega arith in
    (size, short)

pub invariant_of-result : goal.invariant_of-result
invariant_of-result c =
    let all = (c.args.machine.now.parts.ok).0 in
    let long = length-map c.args.machine.now.parts.items part_of in
    let same : c.loop-part._part ≡ length (machine_of c.args.machine.now).parts = omega (arith, all, long, c.len-part-end.ensures, c.loop-part-test.false, c.loop-part.auto) in
    (subst (AreStates (machine_of c.args.machine.now)) (sym (c.loop-part.invariant.states ∙ ap (λ n. replicate {A = ℕ} n 0) same)) (starts_stand (machine_of c.args.machine.now) c.args.machine.now.kept), c.loop-part.invariant.room)

pub returns : goal.returns
returns c =
    let all = (c.args.machine.now.parts.ok).0 in
    let long = length-map c.args.machine.now.parts.items part_of in
    let same : c.loop-part._part ≡ length (machine_of c.args.machine.now).parts = omega (arith, all, long, c.len-part-end.ensures, c.loop-part-test.false, c.loop-part.auto) in
    ap (λ (xs : List ℕ). let r : Standing = record { machine = machine_of c.args.machine.now; states = xs } in r) (c.loop-part.invariant.states ∙ ap (λ n. replicate {A = ℕ} n 0) same)
