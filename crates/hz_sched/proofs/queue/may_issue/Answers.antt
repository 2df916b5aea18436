use Rattle.std.proofs.Common.{◌<◌, ℕ, length, sym, subst, arith}
use Rattle.std.proofs.lemmas.List.{length-map}
use Rattle.hz_block_model.proofs.Scheduling.SameSchedules.{class_below}
use Rattle.hz_sched.specs.Shape.{graph_of, node_of}
use Rattle.hz_sched.proofs.BoardLemmas.{classes_of_nodes}
use Rattle.hz_sched.proofs.queue.may_issue.Goals as goal

pub fits-requires-clause-class : goal.fits-requires-clause-class
fits-requires-clause-class c =
    let classes = length c.args.machine.now.classes.items in
    let insns = c.args.graph.now.insns.items in
    let long = length-map insns node_of in
    subst (λ (n : ℕ). n < classes) (sym c.class_at.ensures) (class_below classes (graph_of c.args.graph.now) (classes_of_nodes classes insns c.requires.classes) c.args.place (omega (arith, long, c.if-place-len.true, c.len.ensures, c.args.graph.now.insns.ok.0)))
