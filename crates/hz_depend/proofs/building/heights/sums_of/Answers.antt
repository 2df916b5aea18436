use Rattle.std.proofs.Common.{◌-◌, List, Option, ℕ, get_or, ap, ◌∙◌, arith}
use Rattle.hz_depend.specs.Relaxing.{height_at}
use Rattle.hz_depend.proofs.BoundLemmas.{bound, latencies_in}
use Rattle.hz_depend.proofs.building.heights.sums_of.Goals as goal

pub overflow_add-sum : goal.overflow_add-sum
overflow_add-sum c =
    let e = get_or c.args.edges.now (c.loop-k.k - 1) (record { from = 0; to = 0; cost = 0 }) in
    let u = c.requires.edges (c.loop-k.k - 1) (record { from = 0; to = 0; cost = 0 }) (omega arith) in
    let same = ap (λ (sums : List (Option ℕ)). height_at (latencies_in c.args.nodes.now) sums e.to) (c.deref.ensures.value ∙ c.loop-k.invariant) in
    let b = bound c.args.nodes.now c.args.edges.now c.requires.latencies c.requires.edges c.requires.ordered c.loop-k.k e.to u.1 in
    let is = c.height_at.ensures in
    omega (arith, u, b, same, is)
