-- The code's kinds of brackets and of bytes, as those of the definitions.
use Rattle.hz_sexp.specs.declared.byte.Bracket.{Bracket}
use Rattle.hz_sexp.specs.declared.byte.Bracket.TheVariants.{Round, Square}
use Rattle.hz_sexp.specs.declared.byte.Role.{Role}
use Rattle.hz_sexp.specs.declared.byte.Role.TheVariants.{Blank, Semicolon, Quote, Letter, Foreign, Opener, Closer}
use Rattle.hz_base_model.specs.Forms.Forms as model

abbrev pub bracket_of : Bracket → model.Bracket
bracket_of Round = model.round
bracket_of Square = model.square

abbrev pub role_of : Role → model.Role
role_of Blank = model.blank
role_of Semicolon = model.semicolon
role_of Quote = model.quote
role_of Letter = model.letter
role_of Foreign = model.foreign
role_of (Opener bracket) = model.opener (bracket_of bracket)
role_of (Closer bracket) = model.closer (bracket_of bracket)
