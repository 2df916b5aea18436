use Rattle.std.proofs.Common.{List, not, sym, ap, ◌∙◌}
use Rattle.std.specs.Prelude.{position}
use Rattle.hz_tables.specs.Machines.{machine_of}
use Rattle.hz_depend.specs.declared.parts.GraphInsn.{GraphInsn}
use Rattle.hz_block_model.specs.Scheduling.Machines.{can_start}
use Rattle.hz_sched.specs.Shape.{node_of}
use Rattle.hz_sched.proofs.SchedLemmas.{position-map}
use Rattle.hz_sched.proofs.scheduling.first_stuck.Goals as goal

pub returns : goal.returns
returns c =
    let m = machine_of c.args.machine.now in
    let insns = c.args.graph.now.insns.items in
    c.first_unstartable.ensures ∙ (ap (λ (xs : List GraphInsn). position (λ i. not (can_start m i.class)) xs) c.deref.ensures.value ∙ sym (position-map node_of (λ n. not (can_start m n.class)) insns))
