use Rattle.std.proofs.Common.{◌+◌, ◌-◌, ◌++◌, ℕ, List, [], ◌∷◌, length, ap, ◌∙◌, arith}
use Rattle.std.specs.Prelude.{codes}
use Rattle.std.specs.List.{concat}
use Rattle.hz_description_model.specs.Reservations.Automata.{UnitPlace}
use Rattle.hz_why_model.specs.Lists.{alternatives_text}
use Rattle.hz_why_model.specs.Takes.{Stretch, stretch_text, takes_word}
use Rattle.hz_explain.specs.Detailing.{texts_of}
use Rattle.hz_explain.specs.Taking.{stretches_in, taken_by}
use Rattle.hz_explain.specs.Telling.{unit_name}
use Rattle.hz_explain.proofs.TakingLaws.{taken_few}
use Rattle.hz_explain.proofs.takes.add_line.Goals as goal

pub returns : goal.returns
returns c =
    let old : List ℕ = c.args.text.now.items in
    let named : List ℕ = alternatives_text c.args.numbers.now in
    let word : List ℕ = takes_word c.args.numbers.now in
    let stretches : List (Stretch UnitPlace) = stretches_in c.args.choice.now in
    let text : Stretch UnitPlace → List ℕ = stretch_text (unit_name c.args.parts.now) in
    let line : List ℕ → List ℕ → List (List ℕ) → List ℕ = λ a b texts. old ++ concat (a ∷ b ∷ taken_by (80 - (length a + length b)) texts ∷ codes "\n" ∷ []) in
    c.in_ok-add_words.ensures
    ∙ (ap (λ (a : List ℕ). line a c.takes_word.result.now (texts_of c.deref-2.result.now)) (c.deref.ensures.value ∙ c.in_ok-named.ensures)
    ∙ (ap (λ (b : List ℕ). line named b (texts_of c.deref-2.result.now)) c.takes_word.ensures
    ∙ (ap (line named word) (ap texts_of c.deref-2.ensures.value ∙ c.in_ok-texts.ensures)
    ∙ ap (λ (t : List ℕ). old ++ concat (named ∷ word ∷ t ∷ codes "\n" ∷ [])) (taken_few text 80 (80 - (length named + length word)) stretches (omega arith)))))
