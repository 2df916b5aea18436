-- The texts of reservation expressions: their tokens, what the tokens spell, and what can be wrong. GCC Internals,
-- 'Specifying processor pipeline description', on regular expressions; the faults are this profile's, docs/RULES.md.
use Rattle.std.specs.Prelude.{◌≡◌, ℕ, ◌+◌, ◌-◌, Bool, true, false, ◌==◌, nat_lt, nat_le, if◌then◌else◌, List, [], ◌∷◌, ◌++◌, length, take, Option, Some, None, codes}
use Rattle.std.specs.Char.{is_ascii_whitespace}
use Rattle.std.specs.List.{fold, prefix_len}
use Rattle.std.specs.Str.{bytes_eq}
use Rattle.hz_description_model.specs.Reservations.Alternatives.{Expression, named, nothing, sequence, one_of, all_of, repeat, Parts, parts_of}
use Rattle.hz_base_model.specs.Lines.{number_of}
use Rattle.hz_description_model.specs.Reservations.Limits.{repeat_limit}
use Rattle.hz_base_model.specs.Names.{is_name_byte}

-- `,` `|` `+`: the marks that join parts
pub data Mark : Type 0 where
  comma bar plus : Mark

-- What a text is made of, each with the place of its first byte: names, marks, `*`, parentheses and any other byte.
pub data Token : Type 0 where
  word : (at : ℕ) (bytes : List ℕ) → Token
  mark : (at : ℕ) (kind : Mark) → Token
  star : (at : ℕ) → Token
  opens : (at : ℕ) → Token
  closes : (at : ℕ) → Token
  foreign : (at : ℕ) → Token

-- the place of a token's first byte
abbrev pub place : Token → ℕ
place (word at bytes) = at
place (mark at kind) = at
place (star at) = at
place (opens at) = at
place (closes at) = at
place (foreign at) = at

-- the token that a byte is, if no name holds it
abbrev pub lone_token : ℕ → ℕ → Token
lone_token at b = if b == 44 then mark at comma
    else if b == 124 then mark at bar
    else if b == 43 then mark at plus
    else if b == 42 then star at
    else if b == 40 then opens at
    else if b == 41 then closes at
    else foreign at

-- the name bytes at the front of a text, up to the first other byte
abbrev pub name_front : List ℕ → List ℕ
name_front text = take (prefix_len is_name_byte text) text

-- The tokens of a text whose first byte stands at a place, inside a name or not. White space is none.
abbrev pub tokens_from : Bool → ℕ → List ℕ → List Token
tokens_from inside at [] = []
tokens_from inside at (b ∷ text) = if is_name_byte b then (if inside then tokens_from true (at + 1) text else word at (name_front (b ∷ text)) ∷ tokens_from true (at + 1) text)
    else if is_ascii_whitespace b then tokens_from false (at + 1) text
    else lone_token at b ∷ tokens_from false (at + 1) text

-- the tokens of a text, with their places from 0
abbrev pub tokens : List ℕ → List Token
tokens text = tokens_from false 0 text

-- what a name stands for
abbrev pub element_of : List ℕ → Expression
element_of bytes = if bytes_eq bytes (codes "nothing") then nothing else named bytes

-- the expression of parts that stand between marks of a kind
abbrev pub joined_parts : Mark → Parts → Expression
joined_parts comma parts = sequence parts
joined_parts bar parts = one_of parts
joined_parts plus parts = all_of parts

-- several parts with a mark between them, and one part as it is
abbrev pub joined_by : Mark → List Expression → Expression
joined_by kind (part ∷ []) = part
joined_by kind parts = joined_parts kind (parts_of parts)

-- How tight a part of an expression is held: an element, an element that may be repeated, or parts with a mark between them.
pub data Level : Type 0 where
  element repeated : Level
  joined : (kind : Mark) → Level

-- what stands between marks of a kind: `+` holds tighter than `|`, and `|` than `,`
abbrev pub below : Mark → Level
below comma = joined bar
below bar = joined plus
below plus = repeated

-- Tokens begin with the spelling of an expression, and the rest is left: a name; an expression in parentheses;
-- an element; an element, `*` and digits; a part with any number of further ones after it.
mutual
  pub data Spells : (level : Level) (tokens : List Token) (value : Expression) (rest : List Token) → Type 0 where
    name : {at : ℕ} {bytes : List ℕ} {rest : List Token} → Spells element (word at bytes ∷ rest) (element_of bytes) rest
    enclosed : {at last : ℕ} {tokens rest : List Token} {value : Expression} → Spells (joined comma) tokens value (closes last ∷ rest)
        → Spells element (opens at ∷ tokens) value rest
    once : {tokens rest : List Token} {value : Expression} → Spells element tokens value rest → Spells repeated tokens value rest
    times : {at last number : ℕ} {bytes : List ℕ} {tokens rest : List Token} {value : Expression} → Spells element tokens value (star at ∷ word last bytes ∷ rest)
        → number_of bytes ≡ Some number → Spells repeated tokens (repeat value number) rest
    parts : {kind : Mark} {tokens others rest : List Token} {first : Expression} {values : List Expression} → Spells (below kind) tokens first others
        → Further kind others values rest → Spells (joined kind) tokens (joined_by kind (first ∷ values)) rest

  -- any number of further parts, each after a mark of the kind
  pub data Further : (kind : Mark) (tokens : List Token) (values : List Expression) (rest : List Token) → Type 0 where
    ends : {kind : Mark} {rest : List Token} → Further kind rest [] rest
    next : {kind : Mark} {at : ℕ} {tokens others rest : List Token} {value : Expression} {values : List Expression} → Spells (below kind) tokens value others
        → Further kind others values rest → Further kind (mark at kind ∷ tokens) (value ∷ values) rest

-- the tokens are an expression, and nothing is left
abbrev pub IsWhole : List Token → Expression → Type 0
IsWhole tokens value = Spells (joined comma) tokens value []

-- the tokens begin an expression: with some others after them they are one
abbrev pub Begins : List Token → Type 0
Begins front = (rest : List Token) × (value : Expression) × IsWhole (front ++ rest) value

-- What can be wrong with a text.
pub data ExpressionFault : Type 0 where
  unexpected no_token repeat_zero too_deep number_too_large : ExpressionFault

-- the word by which a fault is reported: docs/FORMATS.md, 'Answers'
abbrev pub expression_word : ExpressionFault → List ℕ
expression_word unexpected = codes "Unexpected"
expression_word no_token = codes "Empty"
expression_word repeat_zero = codes "RepeatZero"
expression_word too_deep = codes "TooDeep"
expression_word number_too_large = codes "NumberTooLarge"

-- how deep parentheses may nest
abbrev pub parentheses_limit : ℕ
parentheses_limit = 64

-- how many parentheses are open after a token
abbrev pub depth_after : ℕ → Token → ℕ
depth_after deep (opens at) = deep + 1
depth_after deep (closes at) = deep - 1
depth_after deep _ = deep

-- how many are open after tokens
abbrev pub depth : List Token → ℕ
depth front = fold depth_after 0 front

-- the token is a `*`
abbrev pub is_star : Token → Bool
is_star (star at) = true
is_star _ = false

-- the last token is a `*`
abbrev pub ends_in_star : List Token → Bool
ends_in_star front = fold (λ _ token. is_star token) false front

-- what is wrong with the number of a repeat
abbrev pub number_fault : Option ℕ → Option ExpressionFault
number_fault None = None
number_fault (Some number) = if number == 0 then Some repeat_zero else if nat_le number repeat_limit then None else Some number_too_large

-- what a token passes where so many parentheses are open, and after a `*` or not
abbrev pub limit_past : ℕ → Bool → Token → Option ExpressionFault
limit_past deep starred (opens at) = if nat_lt deep parentheses_limit then None else Some too_deep
limit_past deep starred (word at bytes) = if starred then number_fault (number_of bytes) else None
limit_past deep starred _ = None

-- what a token passes after a front that it continues: the depth of parentheses, or the range of a repeat's number
abbrev pub limit_fault : List Token → Token → Option ExpressionFault
limit_fault front token = limit_past (depth front) (ends_in_star front) token

-- no token passes a limit
abbrev pub KeepsLimits : List Token → Type 0
KeepsLimits all = (front : List Token) (token : Token) (rest : List Token) → all ≡ front ++ token ∷ rest → limit_fault front token ≡ None

-- The text spells the expression, and keeps the limits.
pub record Reads (text : List ℕ) (value : Expression) : Type 0 where
  pub whole : IsWhole (tokens text) value
  pub limits : KeepsLimits (tokens text)

-- the tokens begin an expression and keep the limits
pub record IsSound (front : List Token) : Type 0 where
  pub begins : Begins front
  pub limits : KeepsLimits front

-- The first place where a text is wrong: what stands before it begins an expression, and there the text goes wrong.
pub data FaultAt (text : List ℕ) : (fault : ExpressionFault) (place : ℕ) → Type 0 where
  without_token : tokens text ≡ [] → FaultAt text no_token 0
  wrong_token : (front : List Token) (token : Token) (rest : List Token) → tokens text ≡ front ++ token ∷ rest → IsSound front → (Begins (front ++ token ∷ []) → ⊥)
      → FaultAt text unexpected (place token)
  wrong_end : (first : Token) (rest : List Token) → tokens text ≡ first ∷ rest → IsSound (first ∷ rest) → ((value : Expression) → IsWhole (first ∷ rest) value → ⊥)
      → FaultAt text unexpected (length text)
  past_limit : (front : List Token) (token : Token) (rest : List Token) {fault : ExpressionFault} → tokens text ≡ front ++ token ∷ rest → IsSound front → Begins (front ++ token ∷ [])
      → limit_fault front token ≡ Some fault → FaultAt text fault (place token)
