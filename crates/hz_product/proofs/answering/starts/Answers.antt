use Rattle.std.proofs.Common.{ℕ, List, [], ◌∷◌, ◌++◌, ap, ◌∙◌}
use Rattle.hz_product.proofs.FirstPair.{starts_more}
use Rattle.hz_product.proofs.answering.starts.Goals as goal

pub loop-component-preserved : goal.loop-component-preserved
loop-component-preserved c =
    c.in_ok-push.ensures ∙ (ap (λ (xs : List ℕ). xs ++ 0 ∷ []) c.loop-component.invariant ∙ starts_more c.loop-component._component-index 0)
