use Rattle.std.proofs.Common.{ℕ, List, [], ◌∷◌, ◌++◌, ap, ◌∙◌, arith}
use Rattle.std.specs.Prelude.{codes}
use Rattle.std.specs.List.{concat}
use Rattle.hz_why_model.specs.Lists.{listed}
use Rattle.hz_explain.specs.Detailing.{texts_of, part_reported}
use Rattle.hz_explain.specs.Telling.{wording_in}
use Rattle.hz_reasons.specs.declared.plan.AutomatonUnit.{AutomatonUnit}
use Rattle.hz_explain.proofs.CutLaws.{texts_take}
use Rattle.hz_explain.proofs.Joining.{joined_three}
use Rattle.hz_explain.proofs.details.add_parts.Goals as goal

pub returns : goal.returns
returns c =
    let old : List ℕ = c.args.text.now.items in
    let units : List AutomatonUnit = c.args.broken.unit ∷ c.args.pattern.now in
    let text : AutomatonUnit → List ℕ = part_reported (wording_in c.args.desc.now c.args.parts.now) c.args.plan.now c.args.issues.now c.args.broken.cycle in
    let list : List (List ℕ) → List ℕ = listed 79 (codes " ") (codes "; ") in
    joined_three old _ _ _ (codes " ") (list (texts_of c.deref.result.now)) (codes "\n") c.in_ok-add.ensures c.in_ok-add_listed.ensures c.in_ok-add-2.ensures
    ∙ ap (λ (t : List ℕ). old ++ concat (codes " " ∷ t ∷ codes "\n" ∷ []))
    (ap list (ap texts_of c.deref.ensures.value ∙ c.in_ok-texts.ensures) ∙ texts_take text units 81 79 (codes " ") (codes "; ") (omega arith) (omega arith) (omega arith))
