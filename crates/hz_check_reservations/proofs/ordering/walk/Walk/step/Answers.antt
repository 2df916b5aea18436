use Rattle.std.proofs.Common.{sym, arith}
use Rattle.hz_check_reservations.specs.Graphs.{ends_in}
use Rattle.hz_check_reservations.specs.Walks.{lists_of}
use Rattle.hz_check_reservations.proofs.Walking.{place_within}
use Rattle.hz_check_reservations.proofs.ordering.walk.Walk.step.Goals as goal

pub pass-requires-clause-node : goal.pass-requires-clause-node
pass-requires-clause-node c =
    let at = place_within (ends_in (lists_of c.args.edges.now) c.args.frame.node) c.args.frame.next c.in-Some.node (sym c.in-Some.ensures.end) in
    omega (arith, c.requires.inside c.args.frame.node c.in-Some.node (c.args.frame.next, at.0, at.1))
