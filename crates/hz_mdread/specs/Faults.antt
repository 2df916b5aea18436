-- What a fault of the code says.
use Rattle.std.specs.Prelude.{◌≡◌, ℕ, Option, Some, None, MatchOption, Result, Ok, Err, IsErr}
use Rattle.std.specs.Option.{option_map}
use Rattle.hz_mdread.specs.declared.fault.MdFault.{MdFault}
use Rattle.hz_mdread.specs.declared.fault.MdFault.TheVariants as code
use Rattle.hz_mdread.specs.declared.fault.Wrong.{Wrong}
use Rattle.hz_mdread.specs.declared.fault.Wrong.TheVariants as wrong
use Rattle.hz_regexp.specs.declared.fault.ExprFault.{ExprFault}
use Rattle.hz_regexp.specs.declared.fault.ExprFault.TheVariants.{NoMemory}
use Rattle.hz_regexp.specs.Faults as regexp
use Rattle.hz_regexp.specs.declared.lists.NamesFault.{NamesFault}
use Rattle.hz_regexp.specs.declared.lists.NamesFault.TheVariants as names
use Rattle.hz_description_model.specs.Grammar.ExpressionTexts.{ExpressionFault}
use Rattle.hz_description_model.specs.Reading.DescriptionForms.{DescriptionFault, unknown_form, bad_shape, bad_condition, unknown_option, latency_limit, unknown_guard, bad_expression}

-- an expression's fault at its place, as the fault of a form at its line
abbrev pub in_form : ℕ → ExpressionFault × ℕ → DescriptionFault × ℕ
in_form line reported = (bad_expression reported.0 reported.1, line)

-- the fault of the definitions and its line; want of memory is none, in an expression too
abbrev pub fault_of : MdFault → Option (DescriptionFault × ℕ)
fault_of (code.UnknownForm line) = Some (unknown_form, line)
fault_of (code.BadShape line) = Some (bad_shape, line)
fault_of (code.BadCondition line) = Some (bad_condition, line)
fault_of (code.UnknownOption line) = Some (unknown_option, line)
fault_of (code.LatencyLimit line) = Some (latency_limit, line)
fault_of (code.BadExpression line fault) = option_map (in_form line) (regexp.fault_of fault)
fault_of (code.UnknownGuard line) = Some (unknown_guard, line)
fault_of code.NoMemory = None

-- What is said of a fault and its line holds of this one. Want of memory says nothing, and is never that of an expression.
abbrev pub Tells : (DescriptionFault → ℕ → Type 0) → MdFault → Type 0
Tells P fault = MatchOption (fault_of fault) (fault ≡ code.NoMemory) (λ reported. P reported.0 reported.1)

-- names where they were read, and none where there was no list of names; want of memory stays
abbrev pub IsListIfRead : {N E : Type 0} → Result N NamesFault → Result (Option N) E → Type 0
IsListIfRead (Ok found) list = list ≡ Ok (Some found)
IsListIfRead (Err names.BadList) list = list ≡ Ok None
IsListIfRead (Err names.NoMemory) list = IsErr list

-- an expression's fault as a form's; want of memory stays
abbrev pub bad_expression_of : ExprFault → Wrong
bad_expression_of NoMemory = wrong.NoMemory
bad_expression_of fault = wrong.BadExpression fault

-- what is wrong with a form, at a line
abbrev pub fault_at : ℕ → Wrong → MdFault
fault_at line wrong.UnknownForm = code.UnknownForm line
fault_at line wrong.BadShape = code.BadShape line
fault_at line wrong.BadCondition = code.BadCondition line
fault_at line wrong.UnknownOption = code.UnknownOption line
fault_at line wrong.LatencyLimit = code.LatencyLimit line
fault_at line (wrong.BadExpression fault) = code.BadExpression line fault
fault_at line wrong.UnknownGuard = code.UnknownGuard line
fault_at line wrong.NoMemory = code.NoMemory

-- what is said of a fault holds of what is wrong with one form, whatever its line
abbrev pub TellsOf : (DescriptionFault → Type 0) → Wrong → Type 0
TellsOf P wrong = Tells (λ fault line. P fault) (fault_at 0 wrong)
