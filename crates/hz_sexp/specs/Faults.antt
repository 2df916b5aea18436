-- What a fault of the code says.
use Rattle.std.specs.Prelude.{ℕ, ⊤, Option, Some, None, MatchOption}
use Rattle.hz_sexp.specs.declared.fault.SexpFault.{SexpFault}
use Rattle.hz_sexp.specs.declared.fault.SexpFault.TheVariants.{Unclosed, Stray, BadEscape, TooDeep, BadByte, NumberTooLarge, NoMemory}
use Rattle.hz_base_model.specs.Forms.Forms.{FormFault, unclosed, stray, bad_escape, too_deep, bad_byte, number_too_large}

-- the fault of the definitions and its line; want of memory is none
abbrev pub fault_of : SexpFault → Option (FormFault × ℕ)
fault_of (Unclosed line) = Some (unclosed, line)
fault_of (Stray line) = Some (stray, line)
fault_of (BadEscape line) = Some (bad_escape, line)
fault_of (TooDeep line) = Some (too_deep, line)
fault_of (BadByte line) = Some (bad_byte, line)
fault_of (NumberTooLarge line) = Some (number_too_large, line)
fault_of NoMemory = None

-- what is said of a fault and its line holds of this one; want of memory says nothing
abbrev pub Tells : (FormFault → ℕ → Type 0) → SexpFault → Type 0
Tells P fault = MatchOption (fault_of fault) ⊤ (λ reported. P reported.0 reported.1)
