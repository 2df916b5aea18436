-- What a fault of the code says.
use Rattle.std.specs.Prelude.{ℕ, ⊤, Option, Some, None, MatchOption}
use Rattle.hz_regexp.specs.declared.fault.ExprFault.{ExprFault}
use Rattle.hz_regexp.specs.declared.fault.ExprFault.TheVariants.{Unexpected, Empty, RepeatZero, TooDeep, NumberTooLarge, NoMemory}
use Rattle.hz_description_model.specs.Grammar.ExpressionTexts.{ExpressionFault, unexpected, no_token, repeat_zero, too_deep, number_too_large}

-- the fault of the definitions and its place; want of memory is none
abbrev pub fault_of : ExprFault → Option (ExpressionFault × ℕ)
fault_of (Unexpected at) = Some (unexpected, at)
fault_of (Empty at) = Some (no_token, at)
fault_of (RepeatZero at) = Some (repeat_zero, at)
fault_of (TooDeep at) = Some (too_deep, at)
fault_of (NumberTooLarge at) = Some (number_too_large, at)
fault_of NoMemory = None

-- what is said of a fault and its place holds of this one; want of memory says nothing
abbrev pub Tells : (ExpressionFault → ℕ → Type 0) → ExprFault → Type 0
Tells P fault = MatchOption (fault_of fault) ⊤ (λ reported. P reported.0 reported.1)
