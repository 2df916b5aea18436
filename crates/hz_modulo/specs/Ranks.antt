-- The order of the slots of a kernel.
use Rattle.std.specs.Prelude.{ℕ, ◌+◌, ◌*◌, ◌-◌, ◌^◌}
use Rattle.hz_modulo.specs.declared.parts.KernelSlot.{KernelSlot}

-- a number that rises with the offset, and in one offset as the stage falls
abbrev pub rank_of : KernelSlot → ℕ
rank_of x = x.offset * 2 ^ 32 + ((2 ^ 32 - 1) - x.stage)
