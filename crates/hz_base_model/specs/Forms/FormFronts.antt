-- To prove with, nothing to believe: no other definition uses it.
-- A front of a text that is read: the brackets that are open, each with the forms before it, and the forms after them.
use Rattle.std.specs.Prelude.{ℕ, List, [], ◌∷◌, ◌++◌, map}
use Rattle.hz_base_model.specs.Forms.Trees.{Tree, Trees, list, vector}
use Rattle.hz_base_model.specs.Forms.Forms.{Bracket, round, square, OpenBracket, Token, opens, spelled}

-- an open bracket, and the forms that stand before it in the list or vector around it
pub record Frame : Type 0 where
  pub opened : OpenBracket
  pub before : Trees

abbrev pub brackets : List Frame → List OpenBracket
brackets frames = map (λ (f : Frame). f.opened) frames

-- the tokens of a front: the innermost frame stands first, and forms come after it
abbrev pub front : List Frame → Trees → List Token
front [] forms = spelled forms
front (inner ∷ outer) forms = front outer inner.before ++ (opens inner.opened.bracket inner.opened.line ∷ spelled forms)

-- what a bracket and its partner enclose
abbrev pub enclosed_by : Bracket → ℕ → Trees → Tree
enclosed_by round line forms = list line forms
enclosed_by square line forms = vector line forms
