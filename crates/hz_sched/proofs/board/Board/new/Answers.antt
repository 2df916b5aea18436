use Rattle.std.proofs.Common.{◌≡◌, ℕ, List, length, replicate, ap, sym, ◌∙◌, arith}
use Rattle.std.proofs.lemmas.List.{length-map, length-replicate}
use Rattle.hz_sched.specs.Shape.{graph_of, node_of}
use Rattle.hz_sched.proofs.BoardLemmas.{none_waited, classes_of_nodes, board_queue}
use Rattle.hz_block_model.proofs.Scheduling.SameSchedules.{class_below}
use Rattle.hz_sched.proofs.board.Board.new.Goals as goal

pub returns-clause-waits : goal.returns-clause-waits
returns-clause-waits c =
    let g = graph_of c.args.graph.now in
    let long = length-map c.args.graph.now.insns.items node_of in
    let count : c.len.result ≡ length g.nodes = omega (arith, long, c.len.ensures, c.args.graph.now.insns.ok.0) in
    none_waited g c.args.counts.items c.in_ok-ripes.ripes.items
    (c.requires.size ∙ sym long)
    (ap (λ (xs : List ℕ). length xs) c.in_ok-ripes.ensures ∙ (length-replicate c.len.result 0 ∙ count))
    c.requires.counted
    (c.in_ok-ripes.ensures ∙ ap (λ (n : ℕ). replicate n 0) count)

pub returns-clause-queued : goal.returns-clause-queued
returns-clause-queued c =
    let g = graph_of c.args.graph.now in
    let insns = c.args.graph.now.insns.items in
    let long = length-map insns node_of in
    let queue = c.in_ok-queue.queue in
    let counts = c.args.counts.items in
    let ripes = c.in_ok-ripes.ripes.items in
    let count : c.len.result ≡ length g.nodes = omega (arith, long, c.len.ensures, c.args.graph.now.insns.ok.0) in
    let waits = none_waited g counts ripes
    (c.requires.size ∙ sym long)
    (ap (λ (xs : List ℕ). length xs) c.in_ok-ripes.ensures ∙ (length-replicate c.len.result 0 ∙ count))
    c.requires.counted
    (c.in_ok-ripes.ensures ∙ ap (λ (n : ℕ). replicate n 0) count) in
    board_queue g counts ripes _ _ queue waits c.deref.ensures.value c.deref-2.ensures.value
    (λ j lt. omega (arith, c.in_ok-queue.ensures.size, class_below c.args.classes g (classes_of_nodes c.args.classes insns c.requires.classes) j lt))
    c.in_ok-queue.ensures.waiting c.in_ok-queue.ensures.ordered c.in_ok-queue.ensures.none c.in_ok-queue.ensures.heads
