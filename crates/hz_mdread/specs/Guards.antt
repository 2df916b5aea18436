-- The operand that may say a guard.
use Rattle.std.specs.Prelude.{Bool, false, Option, Some, None, Result, Ok}
use Rattle.hz_base_model.specs.Forms.Trees.{Tree}
use Rattle.hz_description_model.specs.Reading.DescriptionForms.{DescriptionFault, shaped, guard_in}

-- whether a bypass has the guard, by the operand for it, if there is one
abbrev pub guard_said : Option Tree → Result Bool DescriptionFault
guard_said None = Ok false
guard_said (Some operand) = shaped (guard_in operand)
