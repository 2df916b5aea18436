-- The code's tokens and places, as those of the definitions.
use Rattle.std.specs.Prelude.{ℕ, List, IsTrue, ⊤, false}
use Rattle.hz_regexp.specs.declared.tokens.Mark.{Mark}
use Rattle.hz_regexp.specs.declared.tokens.Mark.TheVariants.{Comma, Bar, Plus}
use Rattle.hz_regexp.specs.declared.tokens.Token.{Token}
use Rattle.hz_regexp.specs.declared.tokens.Token.TheVariants as code
use Rattle.hz_description_model.specs.Grammar.ExpressionTexts.{word, mark, star, opens, closes, foreign, comma, bar, plus, tokens_from}
use Rattle.hz_description_model.specs.Grammar.ExpressionTexts as model
use Rattle.hz_base_model.specs.Names.{is_name}

-- a mark
abbrev pub mark_of : Mark → model.Mark
mark_of Comma = comma
mark_of Bar = bar
mark_of Plus = plus

-- a token at a place
abbrev pub token_of : ℕ → Token → model.Token
token_of at (code.Word bytes) = word at bytes.now
token_of at (code.Mark kind) = mark at (mark_of kind)
token_of at code.Star = star at
token_of at code.Opens = opens at
token_of at code.Closes = closes at
token_of at code.Foreign = foreign at

-- a word is a name
abbrev pub IsNamed : Token → Type 0
IsNamed (code.Word bytes) = IsTrue (is_name bytes.now)
IsNamed _ = ⊤

-- the tokens of what is left, from a place on
abbrev pub tokens_at : ℕ → List ℕ → List model.Token
tokens_at at text = tokens_from false at text
