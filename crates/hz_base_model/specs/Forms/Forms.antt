-- The forms of a machine description's text: lists, vectors, strings, atoms, numbers and comments. GCC Internals,
-- 'Machine Descriptions'; the bytes and the faults are this profile's, docs/FORMATS.md.
use Rattle.std.specs.Prelude.{◌≡◌, ℕ, ◌+◌, ◌^◌, Bool, true, false, ◌&&◌, ◌||◌, ◌==◌, not, nat_lt, nat_le, if◌then◌else◌, List, [], ◌∷◌, ◌++◌, length, codes, ℤ, pos, negsuc, neg_ℤ, IsTrue, IsFalse}
use Rattle.std.specs.Prelude.{Option, Some, None}
use Rattle.std.specs.List.{list_all}
use Rattle.std.specs.Option.{option_and_then}
use Rattle.std.specs.Str.Parse.{digits_value}
use Rattle.hz_base_model.specs.Forms.Trees.{Tree, Trees, list, vector, atom, quoted, number, none, more}

-- `( )` make a list, `[ ]` a vector.
pub data Bracket : Type 0 where
  round square : Bracket

-- a bracket that is open, and the line where it stands
pub record OpenBracket : Type 0 where
  pub bracket : Bracket
  pub line : ℕ

-- What a text is made of: brackets, and forms without brackets.
pub data Token : Type 0 where
  opens : (bracket : Bracket) (line : ℕ) → Token
  closes : (bracket : Bracket) → Token
  leaf : (form : Tree) → Token

-- the tokens that spell forms
abbrev mutual
  pub spelled_tree : Tree → List Token
  spelled_tree (list line forms) = opens round line ∷ (spelled forms ++ closes round ∷ [])
  spelled_tree (vector line forms) = opens square line ∷ (spelled forms ++ closes square ∷ [])
  spelled_tree (atom line bytes) = leaf (atom line bytes) ∷ []
  spelled_tree (quoted line bytes) = leaf (quoted line bytes) ∷ []
  spelled_tree (number line value) = leaf (number line value) ∷ []

  pub spelled : Trees → List Token
  spelled none = []
  spelled (more first others) = spelled_tree first ++ spelled others

-- how deep brackets may nest
abbrev pub depth_limit : ℕ
depth_limit = 64

-- the same kind of bracket
abbrev pub same_bracket : Bracket → Bracket → Bool
same_bracket round round = true
same_bracket square square = true
same_bracket _ _ = false

-- the innermost open bracket is closed by one of its own kind
abbrev pub closed : List OpenBracket → Bracket → Option (List OpenBracket)
closed [] bracket = None
closed (inner ∷ outer) bracket = if same_bracket inner.bracket bracket then Some outer else None

-- the brackets that are open after a token, the innermost first, where it may stand
abbrev pub open_after : List OpenBracket → Token → Option (List OpenBracket)
open_after opened (opens bracket line) = if nat_lt (length opened) depth_limit then Some (record { bracket = bracket; line = line } ∷ opened) else None
open_after opened (closes bracket) = closed opened bracket
open_after opened (leaf form) = Some opened

-- the same after several tokens
abbrev pub open_after_all : List OpenBracket → List Token → Option (List OpenBracket)
open_after_all opened [] = Some opened
open_after_all opened (token ∷ tokens) = option_and_then (λ now. open_after_all now tokens) (open_after opened token)

-- the line after a byte
abbrev pub line_after : ℕ → ℕ → ℕ
line_after b line = if b == 10 then line + 1 else line

-- What a byte is outside strings and comments: it may begin a comment, a string or a word.
pub data Role : Type 0 where
  blank semicolon quote letter foreign : Role
  opener closer : (bracket : Bracket) → Role

-- space, tab, line feed, form feed and carriage return
abbrev pub is_blank : ℕ → Bool
is_blank b = b == 32 || b == 9 || b == 10 || b == 12 || b == 13

-- `(` `)` `[` `]` `{` `}` `"` `;`
abbrev pub is_mark : ℕ → Bool
is_mark b = b == 40 || b == 41 || b == 91 || b == 93 || b == 123 || b == 125 || b == 34 || b == 59

-- a printable byte of which words are made
abbrev pub is_letter : ℕ → Bool
is_letter b = nat_le 33 b && nat_le b 126 && not (is_mark b)

-- what a byte outside strings and comments is for
abbrev pub role : ℕ → Role
role b = if is_letter b then letter
    else if is_blank b then blank
    else if b == 40 then opener round
    else if b == 41 then closer round
    else if b == 91 then opener square
    else if b == 93 then closer square
    else if b == 34 then quote
    else if b == 59 then semicolon
    else foreign

-- two bytes stand at the front
abbrev pub begins : ℕ → ℕ → List ℕ → Bool
begins first second (x ∷ y ∷ rest) = x == first && y == second
begins first second _ = false

-- `/*`
abbrev pub begins_comment : List ℕ → Bool
begins_comment text = begins 47 42 text

-- `*/`
abbrev pub ends_comment : List ℕ → Bool
ends_comment text = begins 42 47 text

-- a word goes on at a letter where no `/*` begins
abbrev pub goes_on : List ℕ → Bool
goes_on [] = false
goes_on (b ∷ text) = is_letter b && not (begins_comment (b ∷ text))

-- The bytes of a word from a text on, as many as go on, and what is left.
pub data Word : (text bytes rest : List ℕ) → Type 0 where
  ends : {rest : List ℕ} → IsFalse (goes_on rest) → Word rest [] rest
  letter : {b : ℕ} {text bytes rest : List ℕ} → IsTrue (goes_on (b ∷ text)) → Word text bytes rest → Word (b ∷ text) (b ∷ bytes) rest

-- `0` to `9`
abbrev pub is_digit : ℕ → Bool
is_digit b = nat_le 48 b && nat_le b 57

-- one digit or more
abbrev pub is_digits : List ℕ → Bool
is_digits bytes = not (length bytes == 0) && list_all is_digit bytes

-- the number that a word is: `-`, if any, and digits; any other word is an atom
abbrev pub integer_of : List ℕ → Option ℤ
integer_of [] = None
integer_of (b ∷ bytes) = if b == 45 && is_digits bytes then Some (neg_ℤ (pos (digits_value 10 bytes)))
    else if is_digits (b ∷ bytes) then Some (pos (digits_value 10 (b ∷ bytes)))
    else None

-- from -2^63 to 2^64 - 1; `negsuc n` is -(n + 1)
abbrev pub is_in_range : ℤ → Bool
is_in_range (pos n) = nat_lt n (2 ^ 64)
is_in_range (negsuc n) = nat_lt n (2 ^ 63)

-- a line feed, a tab and a printable byte may stand in a string
abbrev pub is_string_byte : ℕ → Bool
is_string_byte b = b == 10 || b == 9 || (nat_le 32 b && nat_le b 126)

-- all of them but `"` and the backslash stand for themselves
abbrev pub is_plain : ℕ → Bool
is_plain b = is_string_byte b && not (b == 34) && not (b == 92)

-- what a backslash and a byte stand for: nothing at a line's end, a quote, a backslash
abbrev pub escaped : ℕ → Option (List ℕ)
escaped b = if b == 10 then Some [] else if b == 34 then Some (34 ∷ []) else if b == 92 then Some (92 ∷ []) else None

-- A part of a string: it leads from a line and a text to a line and a rest, and stands for bytes.
pub data Inside : (line : ℕ) (text bytes : List ℕ) (last : ℕ) (rest : List ℕ) → Type 0 where
  stays : {line : ℕ} {rest : List ℕ} → Inside line rest [] line rest
  plain : {line b last : ℕ} {text bytes rest : List ℕ} → IsTrue (is_plain b)
      → Inside (line_after b line) text bytes last rest → Inside line (b ∷ text) (b ∷ bytes) last rest
  escape : {line b last : ℕ} {text given bytes rest : List ℕ} → escaped b ≡ Some given
      → Inside (line_after b line) text bytes last rest → Inside line (92 ∷ b ∷ text) (given ++ bytes) last rest

-- A part of a `/* */` comment, up to its end or less.
pub data Comment : (line : ℕ) (text : List ℕ) (last : ℕ) (rest : List ℕ) → Type 0 where
  stays : {line : ℕ} {rest : List ℕ} → Comment line rest line rest
  goes : {line b last : ℕ} {text rest : List ℕ} → IsFalse (ends_comment (b ∷ text))
      → Comment (line_after b line) text last rest → Comment line (b ∷ text) last rest

-- the text from its first line feed on
abbrev pub line_end : List ℕ → List ℕ
line_end [] = []
line_end (b ∷ text) = if b == 10 then b ∷ text else line_end text

-- One step of reading: it leads from a line and a text to a line and a rest. White space and comments give no token.
pub data Step (line : ℕ) : (text : List ℕ) (tokens : List Token) (last : ℕ) (rest : List ℕ) → Type 0 where
  white : {b : ℕ} {rest : List ℕ} → role b ≡ blank → Step line (b ∷ rest) [] (line_after b line) rest
  line_comment : {b : ℕ} {text : List ℕ} → role b ≡ semicolon → Step line (b ∷ text) [] line (line_end text)
  comment : {text rest : List ℕ} {last : ℕ} → Comment line text last (42 ∷ 47 ∷ rest) → Step line (47 ∷ 42 ∷ text) [] last rest
  opening : {b : ℕ} {bracket : Bracket} {rest : List ℕ} → role b ≡ opener bracket
      → Step line (b ∷ rest) (opens bracket line ∷ []) line rest
  closing : {b : ℕ} {bracket : Bracket} {rest : List ℕ} → role b ≡ closer bracket → Step line (b ∷ rest) (closes bracket ∷ []) line rest
  word : {b : ℕ} {text bytes rest : List ℕ} → Word (b ∷ text) (b ∷ bytes) rest → integer_of (b ∷ bytes) ≡ None
      → Step line (b ∷ text) (leaf (atom line (b ∷ bytes)) ∷ []) line rest
  numeral : {b : ℕ} {text bytes rest : List ℕ} {value : ℤ} → Word (b ∷ text) (b ∷ bytes) rest → integer_of (b ∷ bytes) ≡ Some value
      → IsTrue (is_in_range value) → Step line (b ∷ text) (leaf (number line value) ∷ []) line rest
  string : {b : ℕ} {text bytes rest : List ℕ} {last : ℕ} → role b ≡ quote → Inside line text bytes last (34 ∷ rest)
      → Step line (b ∷ text) (leaf (quoted line bytes) ∷ []) last rest

-- Steps one after another.
pub data Reading : (line : ℕ) (text : List ℕ) (tokens : List Token) (last : ℕ) (rest : List ℕ) → Type 0 where
  stops : {line : ℕ} {rest : List ℕ} → Reading line rest [] line rest
  steps : {line now last : ℕ} {text left rest : List ℕ} {tokens others : List Token} → Step line text tokens now left
      → Reading now left others last rest → Reading line text (tokens ++ others) last rest

-- The text is the spelling of the forms, with white space and comments between them, and nests no deeper than the limit.
pub record Reads (text : List ℕ) (forms : Trees) : Type 0 where
  pub last : ℕ
  pub reading : Reading 1 text (spelled forms) last []
  pub nests : open_after_all [] (spelled forms) ≡ Some []

-- What can be wrong with a text.
pub data FormFault : Type 0 where
  unclosed stray bad_escape too_deep bad_byte number_too_large : FormFault

-- the word by which a fault is reported: docs/FORMATS.md, 'Answers'
abbrev pub form_word : FormFault → List ℕ
form_word unclosed = codes "Unclosed"
form_word stray = codes "Stray"
form_word bad_escape = codes "BadEscape"
form_word too_deep = codes "TooDeep"
form_word bad_byte = codes "BadByte"
form_word number_too_large = codes "NumberTooLarge"

-- What a text begins with where it is wrong, at a line and with brackets open: the fault and its line.
pub data Faulty (opened : List OpenBracket) (line : ℕ) : (text : List ℕ) (fault : FormFault) (place : ℕ) → Type 0 where
  open_bracket : {inner : OpenBracket} {outer : List OpenBracket} → opened ≡ inner ∷ outer → Faulty opened line [] unclosed inner.line
  open_comment : {text : List ℕ} {last : ℕ} → Comment line text last [] → Faulty opened line (47 ∷ 42 ∷ text) unclosed line
  open_string : {b last : ℕ} {text bytes : List ℕ} → role b ≡ quote → Inside line text bytes last [] → Faulty opened line (b ∷ text) unclosed line
  cut_string : {b last : ℕ} {text bytes : List ℕ} → role b ≡ quote → Inside line text bytes last (92 ∷ [])
      → Faulty opened line (b ∷ text) unclosed line
  stray_bracket : {b : ℕ} {bracket : Bracket} {rest : List ℕ} → role b ≡ closer bracket → closed opened bracket ≡ None
      → Faulty opened line (b ∷ rest) stray line
  wrong_escape : {b c last : ℕ} {text bytes rest : List ℕ} → role b ≡ quote → Inside line text bytes last (92 ∷ c ∷ rest) → escaped c ≡ None
      → Faulty opened line (b ∷ text) bad_escape last
  deep_bracket : {b : ℕ} {bracket : Bracket} {rest : List ℕ} → role b ≡ opener bracket → IsFalse (nat_lt (length opened) depth_limit)
      → Faulty opened line (b ∷ rest) too_deep line
  foreign_byte : {b : ℕ} {rest : List ℕ} → role b ≡ foreign → Faulty opened line (b ∷ rest) bad_byte line
  foreign_in_string : {b c last : ℕ} {text bytes rest : List ℕ} → role b ≡ quote → Inside line text bytes last (c ∷ rest)
      → IsFalse (is_string_byte c) → Faulty opened line (b ∷ text) bad_byte last
  large_number : {b : ℕ} {text bytes rest : List ℕ} {value : ℤ} → Word (b ∷ text) (b ∷ bytes) rest → integer_of (b ∷ bytes) ≡ Some value
      → IsFalse (is_in_range value) → Faulty opened line (b ∷ text) number_too_large line

-- The text is read up to a rest, with certain brackets open, and the rest begins with what is wrong.
pub record FaultAt (text : List ℕ) (fault : FormFault) (place : ℕ) : Type 0 where
  pub tokens : List Token
  pub last : ℕ
  pub rest : List ℕ
  pub opened : List OpenBracket
  pub reading : Reading 1 text tokens last rest
  pub nests : open_after_all [] tokens ≡ Some opened
  pub wrong : Faulty opened last rest fault place
