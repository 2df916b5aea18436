use Rattle.std.proofs.Common.{◌≡◌, replicate}
use Rattle.hz_product.proofs.answering.starts.Given as goal

abbrev pub invariant-loop-component : goal.invariant-loop-component
invariant-loop-component l = l.states ≡ replicate l._component-index 0
