-- What the reader holds, by the words of the definition.
use Rattle.std.specs.Prelude.{◌≡◌, ℕ, List, map, reverse, Ok, Err}
use Rattle.hz_regexp.specs.declared.fault.ExprFault.{ExprFault}
use Rattle.hz_regexp.specs.declared.level.Level.{Level}
use Rattle.hz_regexp.specs.declared.reader.Last.{Last}
use Rattle.hz_regexp.specs.declared.reader.Last.TheVariants as code
use Rattle.hz_regexp.specs.declared.reader.Levels.{Levels}
use Rattle.hz_regexp.specs.declared.reader.Reader.{Reader}
use Rattle.hz_regexp.specs.declared.tokens.Token.{Token}
use Rattle.hz_regexp.specs.Faults.{Tells}
use Rattle.hz_regexp.specs.Shape.{expression}
use Rattle.hz_regexp.specs.Levels.{open_of}
use Rattle.hz_regexp.specs.Tokens.{token_of}
use Rattle.hz_description_model.specs.Grammar.ExpressionSteps.{Open, State, nothing_yet, element, starred, repeated, take}
use Rattle.hz_description_model.specs.Grammar.ExpressionSteps as steps

-- the levels around the innermost one, the next outer one first
abbrev pub opens_in : List Level → List Open
opens_in outer = map open_of (reverse outer)

-- the last tokens
abbrev pub last_of : Last → steps.Last
last_of code.NothingYet = nothing_yet
last_of (code.Element value) = element (expression value)
last_of (code.Starred value) = starred (expression value)
last_of (code.Repeated value) = repeated (expression value)

-- levels with the last tokens after them
abbrev pub state_with : Levels → steps.Last → State
state_with levels last = record { inner = open_of levels.inner; outer = opens_in levels.outer.items; last = last }

-- what the reader holds
abbrev pub state_of : Reader → State
state_of reader = state_with reader.levels (last_of reader.last)

-- a token at a place leads to what the reader holds
abbrev pub Takes : State → ℕ → Token → Reader → Type 0
Takes s at token reader = take s (token_of at token) ≡ Ok (state_of reader)

-- a token at a place is wrong there
abbrev pub Refuses : State → ℕ → Token → ExprFault → Type 0
Refuses s at token fault = Tells (λ f place. (take s (token_of at token) ≡ Err f) × (place ≡ at)) fault
