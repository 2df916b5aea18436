-- The end of an expression: what is held there, that it is one, and that what was read so far can always be ended.
use Rattle.std.proofs.Common.{◌≡◌, ◌++◌, List, [], ◌∷◌, refl, ap, ◌∙◌, Some}
use Rattle.hz_description_model.specs.Reservations.Alternatives.{Expression, repeat}
use Rattle.hz_description_model.specs.Grammar.ExpressionTexts.{comma, bar, plus, Token, word, closes, joined_by, Spells, Further}
use Rattle.hz_description_model.specs.Grammar.ExpressionTexts as grammar
use Rattle.hz_description_model.specs.Grammar.ExpressionSteps.{Open, Last, nothing_yet, element, starred, repeated, State, sequence_with, finish, finish_part, finish_last}
use Rattle.hz_description_model.proofs.Grammar.ExpressionTextsRest.{Repeat, PartEnds, ElementEnds, EndsIn, LastEnds, Completes, alone}

no_element : {value : Expression} {left : List Token} → Spells grammar.element [] value left → ⊥
no_element h = elim h [ ]

ended_outer : (inner : Open) (outer : List Open) (part value whole : Expression) → sequence_with inner part ≡ value → EndsIn whole outer value [] → finish_part inner outer part ≡ Some whole
ended_outer inner [] part value whole e h = ap Some (e ∙ h.1)
ended_outer inner (o ∷ outer) part value whole e h = absurd (let clash = h.is in cc)

ended_further : (inner : Open) (outer : List Open) (part : Expression) {after_all after_choice rest : List Token} {together choices sequence : List Expression} (whole value : Expression)
    → Further plus [] together after_all → Further bar after_all choices after_choice → Further comma after_choice sequence rest
    → joined_by comma (inner.sequence ++ joined_by bar (inner.choices ++ joined_by plus (inner.together ++ part ∷ together) ∷ choices) ∷ sequence) ≡ value
    → EndsIn whole outer value rest → finish_part inner outer part ≡ Some whole
ended_further inner outer part whole value Further.ends Further.ends Further.ends e h = ended_outer inner outer part value whole e h

ended_part : (inner : Open) (outer : List Open) (part whole : Expression) → PartEnds inner (EndsIn whole outer) part [] → finish_part inner outer part ≡ Some whole
ended_part inner outer part whole h = let e = h.encloses in ended_further inner outer part whole h.value e.is_all e.is_choice e.is_sequence e.is h.ends

ended_element : (inner : Open) (outer : List Open) {value part : Expression} {left : List Token} (whole : Expression) → Repeat value [] part left → PartEnds inner (EndsIn whole outer) part left
    → finish_part inner outer value ≡ Some whole
ended_element inner outer {value} whole Repeat.once h = ended_part inner outer value whole h

ended_first : {part : Expression} {left : List Token} → Spells grammar.repeated [] part left → ⊥
ended_first (Spells.once spells) = no_element spells
ended_first (Spells.times spells e) = no_element spells

ended_last : (inner : Open) (outer : List Open) (last : Last) (whole : Expression) → LastEnds inner (EndsIn whole outer) last [] → finish_last inner outer last ≡ Some whole
ended_last inner outer nothing_yet whole h = absurd (ended_first h.spells)
ended_last inner outer (element value) whole h = ended_element inner outer whole h.repeats h.ends
ended_last inner outer (starred value) whole h = absurd (let clash = h.is in cc)
ended_last inner outer (repeated value) whole h = ended_part inner outer value whole h

-- where nothing is left, the expression is the one that was read
pub ended : (s : State) (whole : Expression) → Completes s [] whole → finish s ≡ Some whole
ended s whole h = ended_last s.inner s.outer s.last whole h

-- what ends a part ends all that is held
part_ends : (inner : Open) (Ends : Expression → List Token → Type 0) (part : Expression) (tokens : List Token) → Ends (sequence_with inner part) tokens → PartEnds inner Ends part tokens
part_ends inner Ends part tokens h = record { value = sequence_with inner part; rest = tokens; encloses = alone inner part tokens; ends = h }

element_ends : (inner : Open) (Ends : Expression → List Token → Type 0) (value : Expression) (tokens : List Token) → Ends (sequence_with inner value) tokens → ElementEnds inner Ends value tokens
element_ends inner Ends value tokens h = record { part = value; left = tokens; repeats = Repeat.once; ends = part_ends inner Ends value tokens h }

finished_part : (inner : Open) (outer : List Open) (part whole : Expression) → finish_part inner outer part ≡ Some whole → EndsIn whole outer (sequence_with inner part) []
finished_part inner [] part whole e = (refl, cc)
finished_part inner (o ∷ outer) part whole e = absurd (cc)

finished_last : (inner : Open) (outer : List Open) (last : Last) (whole : Expression) → finish_last inner outer last ≡ Some whole → LastEnds inner (EndsIn whole outer) last []
finished_last inner outer nothing_yet whole e = absurd (cc)
finished_last inner outer (element value) whole e = element_ends inner (EndsIn whole outer) value [] (finished_part inner outer value whole e)
finished_last inner outer (starred value) whole e = absurd (cc)
finished_last inner outer (repeated value) whole e = part_ends inner (EndsIn whole outer) value [] (finished_part inner outer value whole e)

pub finished : (s : State) (whole : Expression) → finish s ≡ Some whole → Completes s [] whole
finished s whole e = finished_last s.inner s.outer s.last whole e

-- Whatever is held can be ended.
pub record CanEnd (Complete : List Token → Expression → Type 0) : Type 0 where
  pub tokens : List Token
  pub whole : Expression
  pub complete : Complete tokens whole

outer_ends : (outer : List Open) (value : Expression) → CanEnd (λ tokens whole. EndsIn whole outer value tokens)
outer_ends [] value = record { tokens = []; whole = value; complete = (refl, refl) }
outer_ends (o ∷ outer) value = let e = outer_ends outer (sequence_with o value) in record {
  tokens = closes 0 ∷ e.tokens;
  whole = e.whole;
  complete = record { at = 0; left = e.tokens; is = refl; ends = element_ends o (EndsIn e.whole outer) value e.tokens e.complete };
}

last_ends : (inner : Open) (outer : List Open) (last : Last) → CanEnd (λ tokens whole. LastEnds inner (EndsIn whole outer) last tokens)
last_ends inner outer nothing_yet = let a : Expression = Expression.named (97 ∷ []) in let e = outer_ends outer (sequence_with inner a) in record {
  tokens = word 0 (97 ∷ []) ∷ e.tokens;
  whole = e.whole;
  complete = record { part = a; left = e.tokens; spells = Spells.once Spells.name; ends = part_ends inner (EndsIn e.whole outer) a e.tokens e.complete };
}
last_ends inner outer (element value) = let e = outer_ends outer (sequence_with inner value) in
    record { tokens = e.tokens; whole = e.whole; complete = element_ends inner (EndsIn e.whole outer) value e.tokens e.complete }
last_ends inner outer (starred value) = let one : Expression = repeat value 1 in let e = outer_ends outer (sequence_with inner one) in record {
  tokens = word 0 (49 ∷ []) ∷ e.tokens;
  whole = e.whole;
  complete = record { at = 0; number = 1; bytes = 49 ∷ []; left = e.tokens; is = refl; is_number = refl; ends = part_ends inner (EndsIn e.whole outer) one e.tokens e.complete };
}
last_ends inner outer (repeated value) = let e = outer_ends outer (sequence_with inner value) in
    record { tokens = e.tokens; whole = e.whole; complete = part_ends inner (EndsIn e.whole outer) value e.tokens e.complete }

pub can_end : (s : State) → CanEnd (Completes s)
can_end s = last_ends s.inner s.outer s.last
