-- What the parts of the reader say of a text, by the words of its definition.
use Rattle.std.specs.Prelude.{◌≡◌, ℕ, ℤ, ◌<◌, List, [], ◌∷◌, length, Some, None, IsTrue, IsFalse}
use Rattle.hz_sexp.specs.declared.place.Place.{Place}
use Rattle.hz_sexp.specs.declared.string.Part.{Part}
use Rattle.hz_sexp.specs.declared.string.Part.TheVariants.{End, Byte, Nothing}
use Rattle.hz_sexp.specs.declared.word.Spelled.{Spelled}
use Rattle.hz_sexp.specs.declared.word.Spelled.TheVariants.{Other, Number, TooLarge}
use Rattle.hz_base_model.specs.Forms.Forms.{OpenBracket, role, quote, integer_of, is_in_range, Inside, Comment, Step, Token, line_after, FormFault, Faulty}

-- what a word is
abbrev pub IsSpelled : List ℕ → Spelled → Type 0
IsSpelled word Other = integer_of word ≡ None
IsSpelled word (Number value) = (integer_of word ≡ Some value) × IsTrue (is_in_range value)
IsSpelled word TooLarge = (value : ℤ) × (integer_of word ≡ Some value) × IsFalse (is_in_range value)

-- the next part of a string, from a line and a text on
abbrev pub IsPart : ℕ → List ℕ → Part → Type 0
IsPart line text (End after) = (text ≡ 34 ∷ after.rest.now) × (after.line ≡ line)
IsPart line text (Byte b after) = Inside line text (b ∷ []) after.line after.rest.now × (length after.rest.now < length text)
IsPart line text (Nothing after) = Inside line text [] after.line after.rest.now × (length after.rest.now < length text)

-- what is wrong with a string that began at a line, and of which a part was read up to a line and a rest
abbrev pub IsWrongInString : ℕ → ℕ → List ℕ → FormFault → ℕ → Type 0
IsWrongInString start line rest fault place = (opened : List OpenBracket) (b : ℕ) (text bytes : List ℕ) → role b ≡ quote
    → Inside start text bytes line rest → Faulty opened start (b ∷ text) fault place

-- what is wrong at the front of a text, whatever brackets are open
abbrev pub IsWrong : ℕ → List ℕ → FormFault → ℕ → Type 0
IsWrong line text fault place = (opened : List OpenBracket) → Faulty opened line text fault place

-- one step leads from a place to a place
abbrev pub IsStep : Place → List Token → Place → Type 0
IsStep from tokens to = Step from.line from.rest.now tokens to.line to.rest.now

-- a string's bytes, from after its first quote, and the place after its end quote
abbrev pub IsString : Place → List ℕ × Place → Type 0
IsString from found = Inside from.line from.rest.now found.0 found.1.line (34 ∷ found.1.rest.now)

-- the byte at a place and the place after it
abbrev pub IsFirst : Place → ℕ × Place → Type 0
IsFirst from found = (from.rest.now ≡ found.0 ∷ found.1.rest.now) × (found.1.line ≡ line_after found.0 from.line)

-- the place after the end of a comment that is open
abbrev pub IsCommentEnd : Place → Place → Type 0
IsCommentEnd from end = Comment from.line from.rest.now end.line (42 ∷ 47 ∷ end.rest.now)
