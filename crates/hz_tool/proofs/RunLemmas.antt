-- What words answer, by the order that they are; and where memory runs out in their place.
use Rattle.std.proofs.Common.{◌≡◌, ℕ, List, Option, Some, None, MatchOption, subst}
use Rattle.std.specs.Prelude.{⊤}
use Rattle.hz_answer_model.specs.Answers.{Answer, AnswersOrder}
use Rattle.hz_base_model.specs.Names.{Held}
use Rattle.hz_front.specs.Endings.{DecidesWords}
use Rattle.hz_front.specs.Refusals.{refused}
use Rattle.hz_front.specs.declared.refusal.Refusal.TheVariants.{Memory}
use Rattle.hz_front_model.specs.Phases.{Says}
use Rattle.hz_words_model.specs.Words.{Order, order_of, usage_line}

-- an answer of status 0 to words that are this order
pub ordered : (words : List (List ℕ)) (held : Held) (text : List ℕ) (order : Order) → Answer words held 0 text → order_of words ≡ Some order → AnswersOrder held order 0 text
ordered words held text order h is = subst (λ (o : Option Order). MatchOption o (Says 4 usage_line 0 text) (λ order. AnswersOrder held order 0 text)) is h

-- memory may run out in place of any words
pub memory_decides : (order : Option Order) → DecidesWords ⊤ usage_line order (refused Memory)
memory_decides None = tt
memory_decides (Some order) = tt
