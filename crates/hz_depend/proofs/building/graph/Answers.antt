use Rattle.std.proofs.Common.{length, sym, ap, ◌∙◌, ◌≡◌, None, rules}
use Rattle.hz_depend.specs.GraphShape.{first_class_fault}
use Rattle.hz_depend.proofs.MadeLemmas.{made, latencies_small, edges_up, edges_ordered, sums_many, is_graph, is_schedulable}
use Rattle.hz_depend.proofs.building.graph.Goals as goal

pub sums_of-requires-clause-latencies : goal.sums_of-requires-clause-latencies
sums_of-requires-clause-latencies c =
    let m = made c.args.checked.now c.args.block.now.insns.items c.deref-2.result.now c.in_ok-nodes.nodes.items c.deref-3.result.now c.in_ok-numbers.numbers c.in_ok-edges.edges.items
    c.deref-2.ensures.value c.deref-3.ensures.value c.in_ok-nodes.ensures.held c.in_ok-numbers.ensures c.in_ok-edges.ensures in
    rw c.deref-4.ensures.value (latencies_small c.args.checked.now c.args.block.now.insns.items c.in_ok-nodes.nodes.items c.in_ok-edges.edges.items m)

pub sums_of-requires-clause-edges : goal.sums_of-requires-clause-edges
sums_of-requires-clause-edges c =
    let m = made c.args.checked.now c.args.block.now.insns.items c.deref-2.result.now c.in_ok-nodes.nodes.items c.deref-3.result.now c.in_ok-numbers.numbers c.in_ok-edges.edges.items
    c.deref-2.ensures.value c.deref-3.ensures.value c.in_ok-nodes.ensures.held c.in_ok-numbers.ensures c.in_ok-edges.ensures in
    rw (c.deref-4.ensures.value, c.deref-5.ensures.value) (edges_up c.args.checked.now c.args.block.now.insns.items c.in_ok-nodes.nodes.items c.in_ok-edges.edges.items m)

pub sums_of-requires-clause-ordered : goal.sums_of-requires-clause-ordered
sums_of-requires-clause-ordered c =
    let m = made c.args.checked.now c.args.block.now.insns.items c.deref-2.result.now c.in_ok-nodes.nodes.items c.deref-3.result.now c.in_ok-numbers.numbers c.in_ok-edges.edges.items
    c.deref-2.ensures.value c.deref-3.ensures.value c.in_ok-nodes.ensures.held c.in_ok-numbers.ensures c.in_ok-edges.ensures in
    rw c.deref-5.ensures.value (edges_ordered c.args.checked.now c.args.block.now.insns.items c.in_ok-nodes.nodes.items c.in_ok-edges.edges.items m)

pub insns_of-requires-clause-sums : goal.insns_of-requires-clause-sums
insns_of-requires-clause-sums c =
    let m = made c.args.checked.now c.args.block.now.insns.items c.deref-2.result.now c.in_ok-nodes.nodes.items c.deref-3.result.now c.in_ok-numbers.numbers c.in_ok-edges.edges.items
    c.deref-2.ensures.value c.deref-3.ensures.value c.in_ok-nodes.ensures.held c.in_ok-numbers.ensures c.in_ok-edges.ensures in
    let s = rw (c.deref-4.ensures.value, c.deref-5.ensures.value) at c.in_ok-sums.ensures in
    ap length c.deref-6.ensures.value ∙ (sums_many c.args.checked.now c.args.block.now.insns.items c.in_ok-nodes.nodes.items c.in_ok-edges.edges.items m c.in_ok-sums.sums.items s ∙ sym (ap length c.deref-8.ensures.value))

pub returns-clause-graph : goal.returns-clause-graph
returns-clause-graph c =
    let none : first_class_fault 0 c.args.checked.now c.args.block.now.insns.items ≡ None = search rules in
    let m = made c.args.checked.now c.args.block.now.insns.items c.deref-2.result.now c.in_ok-nodes.nodes.items c.deref-3.result.now c.in_ok-numbers.numbers c.in_ok-edges.edges.items
    c.deref-2.ensures.value c.deref-3.ensures.value c.in_ok-nodes.ensures.held c.in_ok-numbers.ensures c.in_ok-edges.ensures in
    let s = rw (c.deref-4.ensures.value, c.deref-5.ensures.value) at c.in_ok-sums.ensures in
    let e = rw (c.deref-6.ensures.value, c.deref-7.ensures.value, c.deref-8.ensures.value) at c.in_ok-insns.ensures in
    is_graph c.args.checked.now c.args.block.now c.in_ok-nodes.nodes.items c.in_ok-sums.sums.items (record { insns = c.in_ok-insns.insns; edges = c.in_ok-edges.edges }) m s e.numbers e.classes e.latencies e.lines e.heights none

pub returns-clause-schedulable : goal.returns-clause-schedulable
returns-clause-schedulable c =
    let m = made c.args.checked.now c.args.block.now.insns.items c.deref-2.result.now c.in_ok-nodes.nodes.items c.deref-3.result.now c.in_ok-numbers.numbers c.in_ok-edges.edges.items
    c.deref-2.ensures.value c.deref-3.ensures.value c.in_ok-nodes.ensures.held c.in_ok-numbers.ensures c.in_ok-edges.ensures in
    let s = rw (c.deref-4.ensures.value, c.deref-5.ensures.value) at c.in_ok-sums.ensures in
    let e = rw (c.deref-6.ensures.value, c.deref-7.ensures.value, c.deref-8.ensures.value) at c.in_ok-insns.ensures in
    is_schedulable c.args.checked.now c.args.block.now c.in_ok-nodes.nodes.items c.in_ok-sums.sums.items (record { insns = c.in_ok-insns.insns; edges = c.in_ok-edges.edges }) m s e.numbers e.classes e.latencies (length c.args.checked.now.classes.items) c.requires c.in_ok-nodes.ensures.within
