use Rattle.std.proofs.Common.{ℕ, List, Contains, subst, arith}
use Rattle.hz_check_reservations.specs.Circles.{AddsStarts}
use Rattle.hz_check_reservations.specs.Walks.{lists_of}
use Rattle.hz_check_reservations.proofs.Lists.{length-lists_of}
use Rattle.hz_check_reservations.proofs.Turning.{turned_all, turned_more}
use Rattle.hz_check_reservations.proofs.ordering.circle.turned.Goals as goal

pub add_starts-requires : goal.add_starts-requires
add_starts-requires c = λ end h.
    let edges = c.args.edges.now in
    omega (arith, c.requires c.loop-node.node end (subst (λ (xs : List ℕ). Contains xs end) c.ends_of.ensures h), c.loop-node.invariant.size, length-lists_of edges, length-lists_of c.loop-node.starts.items)

pub loop-node-preserved : goal.loop-node-preserved
loop-node-preserved c =
    let edges = c.args.edges.now in
    let before = lists_of c.loop-node.starts.items in
    let after = lists_of c.add_starts.new.starts.items in
    turned_more (lists_of edges) before after c.loop-node.node c.loop-node.invariant (subst (λ (xs : List ℕ). AddsStarts c.loop-node.node xs before after) c.ends_of.ensures c.in_ok-add_starts.ensures)

pub returns : goal.returns
returns c =
    turned_all (lists_of c.args.edges.now) (lists_of c.loop-node.starts.items) c.loop-node.node (omega (arith, length-lists_of c.args.edges.now)) c.loop-node.invariant
