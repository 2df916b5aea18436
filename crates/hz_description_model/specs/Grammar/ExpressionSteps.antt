-- Reading the tokens of an expression one by one: what is held of those that were read.
use Rattle.std.specs.Prelude.{Bool, true, false, length, Result, Ok, Err, ◌++◌, List, [], ◌∷◌, Option, Some, None}
use Rattle.std.specs.Option.{option_map}
use Rattle.hz_description_model.specs.Reservations.Alternatives.{Expression, repeat}
use Rattle.hz_description_model.specs.Grammar.ExpressionTexts.{ExpressionFault, unexpected, limit_past, Mark, comma, bar, plus, Token, word, mark, star, opens, closes, element_of, joined_by}
use Rattle.hz_base_model.specs.Lines.{number_of}

-- The parts before the last one, of the sequence, of its last choice, and of that one's last part.
pub record Open : Type 0 where
  pub sequence : List Expression
  pub choices : List Expression
  pub together : List Expression

-- no part yet
abbrev pub unopened : Open
unopened = record { sequence = []; choices = []; together = [] }

-- What the last tokens are: none since a mark or parenthesis, an element, an element and `*`, or a repeat.
pub data Last : Type 0 where
  nothing_yet : Last
  element : (value : Expression) → Last
  starred : (value : Expression) → Last
  repeated : (value : Expression) → Last

-- What is held: the parts in the innermost parentheses, those in each one around them, and the last tokens.
pub record State : Type 0 where
  pub inner : Open
  pub outer : List Open
  pub last : Last

-- nothing is read
abbrev pub start : State
start = record { inner = unopened; outer = []; last = nothing_yet }

-- the parts of an `+` with a last one, of a `|`, and of a `,`
abbrev pub all_with : Open → Expression → Expression
all_with o value = joined_by plus (o.together ++ value ∷ [])

abbrev pub choice_with : Open → Expression → Expression
choice_with o value = joined_by bar (o.choices ++ all_with o value ∷ [])

abbrev pub sequence_with : Open → Expression → Expression
sequence_with o value = joined_by comma (o.sequence ++ choice_with o value ∷ [])

-- a part and a mark after it
abbrev pub before : Mark → Open → Expression → Open
before plus o value = record { sequence = o.sequence; choices = o.choices; together = o.together ++ value ∷ [] }
before bar o value = record { sequence = o.sequence; choices = o.choices ++ all_with o value ∷ []; together = [] }
before comma o value = record { sequence = o.sequence ++ choice_with o value ∷ []; choices = []; together = [] }

-- a token where an element is wanted
abbrev pub step_first : Open → List Open → Token → Option State
step_first inner outer (word at bytes) = Some (record { inner = inner; outer = outer; last = element (element_of bytes) })
step_first inner outer (opens at) = Some (record { inner = unopened; outer = inner ∷ outer; last = nothing_yet })
step_first inner outer _ = None

-- a token after a part
abbrev pub step_part : Open → List Open → Expression → Token → Option State
step_part inner outer value (mark at kind) = Some (record { inner = before kind inner value; outer = outer; last = nothing_yet })
step_part inner (outer ∷ others) value (closes at) = Some (record { inner = outer; outer = others; last = element (sequence_with inner value) })
step_part inner outer value _ = None

-- a token after an element
abbrev pub step_element : Open → List Open → Expression → Token → Option State
step_element inner outer value (star at) = Some (record { inner = inner; outer = outer; last = starred value })
step_element inner outer value token = step_part inner outer value token

-- a token after an element and `*`
abbrev pub step_star : Open → List Open → Expression → Token → Option State
step_star inner outer value (word at bytes) = option_map (λ number. record { inner = inner; outer = outer; last = repeated (repeat value number) }) (number_of bytes)
step_star inner outer value _ = None

-- a token after the last ones
abbrev pub step_last : Open → List Open → Last → Token → Option State
step_last inner outer nothing_yet token = step_first inner outer token
step_last inner outer (element value) token = step_element inner outer value token
step_last inner outer (starred value) token = step_star inner outer value token
step_last inner outer (repeated value) token = step_part inner outer value token

-- what is held after one more token, if the token continues what was read
abbrev pub step : State → Token → Option State
step s token = step_last s.inner s.outer s.last token

-- the expression at the end after a part
abbrev pub finish_part : Open → List Open → Expression → Option Expression
finish_part inner [] value = Some (sequence_with inner value)
finish_part inner (outer ∷ others) value = None

-- the expression at the end after the last tokens
abbrev pub finish_last : Open → List Open → Last → Option Expression
finish_last inner outer (element value) = finish_part inner outer value
finish_last inner outer (repeated value) = finish_part inner outer value
finish_last inner outer _ = None

-- the expression that was read, if it ends here
abbrev pub finish : State → Option Expression
finish s = finish_last s.inner s.outer s.last

-- the last token is a `*`
abbrev pub is_starred : Last → Bool
is_starred (starred value) = true
is_starred _ = false

-- what comes of a token: what is held after it, or what is wrong
abbrev pub judged : Option State → Option ExpressionFault → Result State ExpressionFault
judged None fault = Err unexpected
judged (Some after) (Some fault) = Err fault
judged (Some after) None = Ok after

-- the same, by the state and the token
abbrev pub take : State → Token → Result State ExpressionFault
take s token = judged (step s token) (limit_past (length s.outer) (is_starred s.last) token)
