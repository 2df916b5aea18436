use Rattle.std.proofs.Common.{◌≡◌, ◌+◌, ◌-◌, ◌++◌, ℕ, List, [], ◌∷◌, length, ap, ◌∙◌, arith}
use Rattle.std.specs.Prelude.{codes}
use Rattle.std.specs.List.{concat}
use Rattle.hz_explain.specs.Detailing.{texts_of}
use Rattle.hz_explain.specs.Taking.{taken_by}
use Rattle.hz_explain.proofs.Joining.{joined}
use Rattle.hz_explain.proofs.takes.add_words.Goals as goal

pub returns : goal.returns
returns c =
    let old : List ℕ = c.args.text.now.items in
    let named : List ℕ = c.args.named.now in
    let word : List ℕ = c.args.word.now in
    let texts : List (List ℕ) = texts_of c.args.texts.now in
    let columns : c.saturating_sub-columns.result ≡ 80 - (length c.args.named.now + length c.args.word.now) = omega arith in
    joined old _ _ _ _ named word (taken_by c.saturating_sub-columns.result texts) (codes "\n") c.in_ok-add.ensures c.in_ok-add-2.ensures c.in_ok-add_taken.ensures c.in_ok-add-3.ensures
    ∙ ap (λ (n : ℕ). old ++ concat (named ∷ word ∷ taken_by n texts ∷ codes "\n" ∷ [])) columns
