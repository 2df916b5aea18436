use Rattle.std.proofs.Common.{◌-◌, ◌++◌, ℕ, List, [], ◌∷◌, Bool, cond, sym, ap, ◌∙◌, arith}
use Rattle.std.specs.Prelude.{codes, decimal}
use Rattle.std.specs.List.{concat}
use Rattle.std.proofs.lemmas.Bool.{lt-ltb}
use Rattle.hz_explain.proofs.Joining.{joined_three}
use Rattle.hz_explain.proofs.takes.add_more.Goals as goal

pub returns : goal.returns
returns c =
    let old : List ℕ = c.args.text.now.items in
    let more : List ℕ = concat (codes "more alternatives: " ∷ decimal (c.args.count - 64) ∷ codes "\n" ∷ []) in
    joined_three old _ _ _ (codes "more alternatives: ") (decimal (c.args.count - 64)) (codes "\n") c.in_ok-add.ensures c.in_ok-add_count.ensures c.in_ok-add-2.ensures
    ∙ ap (λ (b : Bool). old ++ cond b more []) (sym (lt-ltb 64 c.args.count (omega arith)))
