use Rattle.std.proofs.Common.{◌∙◌, map}
use Rattle.hz_checked.specs.Shape.{bypass_of}
use Rattle.hz_depend.specs.GraphShape.{latencies_of}
use Rattle.hz_rtl.specs.Shape.{instruction, instructions}
use Rattle.hz_timed.proofs.WaitLemmas.{number_is}
use Rattle.hz_timed.proofs.waits.Waits.between.Goals as goal

pub returns : goal.returns
returns c =
    let w = c.args.self.now in
    c.ripe.ensures
    ∙ number_is (map bypass_of w.checked.now.bypasses.items) (latencies_of w.checked.now) (map (λ i. i.class) w.graph.now.insns.items) (instructions w.block.now) c.args.first c.args.second c.class.result c.class-2.result
    (instruction c.insn.result.now) (instruction c.insn-2.result.now) c.insn.ensures c.insn-2.ensures c.class.ensures.class c.class-2.ensures.class
