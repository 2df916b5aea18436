-- What a fault of the code says.
use Rattle.std.specs.Prelude.{ℕ, ⊤, Option, Some, None, MatchOption}
use Rattle.hz_rtl.specs.declared.fault.RtlFault.{RtlFault}
use Rattle.hz_rtl.specs.declared.fault.RtlFault.TheVariants.{BadShape, UnknownCode, RegisterRange, Twice, InsnLimit, NoMemory}
use Rattle.hz_block_model.specs.Texts.Operands as model

-- the fault of the definitions and its line; want of memory is none
abbrev pub fault_of : RtlFault → Option (model.RtlFault × ℕ)
fault_of (BadShape line) = Some (model.bad_shape, line)
fault_of (UnknownCode line) = Some (model.unknown_code, line)
fault_of (RegisterRange line) = Some (model.register_range, line)
fault_of (Twice line) = Some (model.twice, line)
fault_of (InsnLimit line) = Some (model.insn_limit, line)
fault_of NoMemory = None

-- what is said of a fault and its line holds of this one; want of memory says nothing
abbrev pub Tells : (model.RtlFault → ℕ → Type 0) → RtlFault → Type 0
Tells P fault = MatchOption (fault_of fault) ⊤ (λ reported. P reported.0 reported.1)
