-- What the reader holds, by the words of the definition.
use Rattle.std.specs.Prelude.{◌≡◌, ℕ, ◌++◌, List, [], ◌∷◌, map, reverse, length, nat_lt, Option, Some, None, IsFalse, ⊤}
use Rattle.hz_sexp.specs.declared.reader.Frame.{Frame}
use Rattle.hz_sexp.specs.declared.reader.Reader.{Reader}
use Rattle.hz_sexp.specs.declared.step.Token.{Token}
use Rattle.hz_sexp.specs.declared.step.Token.TheVariants.{Open, Close, Leaf}
use Rattle.hz_sexp.specs.Kinds.{bracket_of}
use Rattle.hz_sexp.specs.Shape.{tree, trees}
use Rattle.hz_base_model.specs.Forms.Forms as model
use Rattle.hz_base_model.specs.Forms.Forms.{OpenBracket, open_after_all, FormFault, stray, too_deep, unclosed, closed, depth_limit}
use Rattle.hz_base_model.specs.Forms.FormFronts as fronts

-- a token that begins at a line
abbrev pub token_of : ℕ → Token → model.Token
token_of line (Open bracket) = model.opens (bracket_of bracket) line
token_of line (Close bracket) = model.closes (bracket_of bracket)
token_of line (Leaf form) = model.leaf (tree form)

-- a leaf has no brackets
abbrev pub IsSimple : Token → Type 0
IsSimple (Leaf form) = model.spelled_tree (tree form) ≡ model.leaf (tree form) ∷ []
IsSimple _ = ⊤

-- the tokens of a step: white space and comments have none
abbrev pub tokens_of : ℕ → Option Token → List model.Token
tokens_of line None = []
tokens_of line (Some token) = token_of line token ∷ []

abbrev pub frame_of : Frame → fronts.Frame
frame_of frame = record { opened = record { bracket = bracket_of frame.bracket; line = frame.line }; before = trees frame.before.items }

-- the open brackets, the innermost first, each with the forms before it
abbrev pub frames_in : List Frame → List fronts.Frame
frames_in open_frames = map frame_of (reverse open_frames)

abbrev pub frames_of : Reader → List fronts.Frame
frames_of reader = frames_in reader.open.items

-- the brackets that are open
abbrev pub opened_in : Reader → List OpenBracket
opened_in reader = fronts.brackets (frames_of reader)

-- the tokens of all that was read
abbrev pub read_in : Reader → List model.Token
read_in reader = fronts.front (frames_of reader) (trees reader.forms.items)

-- the reader has one token more, which may stand there
pub record Takes (old : Reader) (token : model.Token) (new : Reader) : Type 0 where
  pub read : read_in new ≡ read_in old ++ token ∷ []
  pub opened : open_after_all (opened_in old) (token ∷ []) ≡ Some (opened_in new)

-- why a token that begins at a line may not stand there: the fault, and its line
abbrev pub IsRefused : Reader → Token → ℕ → FormFault → ℕ → Type 0
IsRefused reader (Open bracket) line fault place = (fault ≡ too_deep) × (place ≡ line) × IsFalse (nat_lt (length (opened_in reader)) depth_limit)
IsRefused reader (Close bracket) line fault place = (fault ≡ stray) × (place ≡ line) × (closed (opened_in reader) (bracket_of bracket) ≡ None)
IsRefused reader _ line fault place = ⊥

-- a bracket is open: the fault at the end, and its line
abbrev pub IsOpen : Reader → FormFault → ℕ → Type 0
IsOpen reader fault place = (fault ≡ unclosed) × (inner : OpenBracket) × (outer : List OpenBracket) × (opened_in reader ≡ inner ∷ outer) × (place ≡ inner.line)
