use Rattle.std.proofs.Common.{◌≡◌, ℕ, length, ◌<◌, sym, ◌∙◌, Some, arith}
use Rattle.hz_timed.specs.Shape.{place_of}
use Rattle.hz_timed.specs.Writes.{number_by}
use Rattle.hz_timed.proofs.IndexLemmas.{walk_first, walk_found, walk_next, got}
use Rattle.hz_timed.proofs.written.Written.newest.Goals as goal

pub loop-turn-init : goal.loop-turn-init
loop-turn-init c = walk_first (number_by c.args.waits.now) c.args.slot c.args.self.now.writes.items (place_of c.args.what) c.latest-at.result c.latest-at.ensures

pub returns-then-is_ripe-clause-newest : goal.returns-then-is_ripe-clause-newest
returns-then-is_ripe-clause-newest c =
    let writes = c.args.self.now.writes.items in
    let bound = c.loop-turn.invariant.low c.in-Some.number c.in-Some.is in
    let inside : c.in-Some.number < length writes = omega (arith, bound) in
    walk_found (number_by c.args.waits.now) c.args.slot writes (place_of c.args.what) c.loop-turn.at c.in-Some.number c.loop-turn._turn c.index.result.now c.in-Some.is c.loop-turn.invariant
    (got writes c.in-Some.number c.index.result.now inside c.index.ensures) (sym c.is_ripe.ensures ∙ c.if-is_ripe.true)

pub loop-turn-preserved : goal.loop-turn-preserved
loop-turn-preserved c =
    let writes = c.args.self.now.writes.items in
    let bound = c.loop-turn.invariant.low c.in-Some.number c.in-Some.is in
    let inside : c.in-Some.number < length writes = omega (arith, bound) in
    let found = got writes c.in-Some.number c.index.result.now inside c.index.ensures in
    walk_next (number_by c.args.waits.now) c.args.slot writes (place_of c.args.what) c.loop-turn.at c.in-Some.number c.loop-turn._turn c.index.result.now c.in-Some.is c.loop-turn.invariant
    found (sym c.is_ripe.ensures ∙ c.if-is_ripe.false) (c.requires.indexed.linked c.in-Some.number c.index.result.now found)
