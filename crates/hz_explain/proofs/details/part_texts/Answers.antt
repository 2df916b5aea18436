use Rattle.std.proofs.Common.{◌≡◌, ℕ, List, [], ◌∷◌, ◌++◌, map, take, ap, ◌∙◌}
use Rattle.std.proofs.lemmas.List.{take_min}
use Rattle.hz_explain.specs.Detailing.{texts_of, part_reported}
use Rattle.hz_explain.specs.Telling.{wording_in}
use Rattle.hz_reasons.specs.declared.plan.AutomatonUnit.{AutomatonUnit}
use Rattle.hz_explain.proofs.details.part_texts.Goals as goal

pub returns : goal.returns
returns c =
    let pattern : List AutomatonUnit = c.args.pattern.now in
    let text : AutomatonUnit → List ℕ = part_reported (wording_in c.args.desc.now c.args.parts.now) c.args.plan.now c.args.issues.now c.args.broken.cycle in
    let shown : take c.min.result pattern ≡ take 80 pattern = ap (λ (n : ℕ). take n pattern) c.min.ensures ∙ take_min 80 pattern in
    c.in_ok-add_part_texts-2.ensures
    ∙ (ap (λ (l : List (List ℕ)). l ++ map text (take c.min.result pattern)) (c.in_ok-add_part_texts.ensures ∙ ap (λ (l : List (List ℕ)). l ++ text c.args.broken.unit ∷ []) (ap texts_of c.new-texts.ensures.items))
    ∙ ap (λ (us : List AutomatonUnit). text c.args.broken.unit ∷ map text us) shown)
