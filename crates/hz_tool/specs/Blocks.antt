-- What is known of a block by a description.
use Rattle.std.specs.Prelude.{⊤, ℕ, ◌<◌}
use Rattle.hz_depend.specs.Faults.{fault as fault_of}
use Rattle.hz_depend.specs.declared.fault.DependFault.{DependFault}
use Rattle.hz_depend.specs.declared.fault.DependFault.TheVariants as depend
use Rattle.hz_block_model.specs.Dependences.Classes.{ClassFault, ambiguous}
use Rattle.hz_sched.specs.declared.fault.SchedFault.{SchedFault}
use Rattle.hz_sched.specs.declared.fault.SchedFault.TheVariants as sched

-- the classes that a fault names are below a number
abbrev pub IsFaultIn : ℕ → ClassFault → Type 0
IsFaultIn count (ambiguous a b) = (a < count) × (b < count)
IsFaultIn count _ = ⊤

-- a fault of the graph of a block of so many instructions, by so many classes
abbrev pub IsWrongIn : ℕ → ℕ → DependFault → Type 0
IsWrongIn classes insns (depend.Class place fault) = (place < insns) × IsFaultIn classes (fault_of fault)
IsWrongIn classes insns depend.NoMemory = ⊤

-- a fault of the schedule of a block of so many instructions
abbrev pub IsStuckIn : ℕ → SchedFault → Type 0
IsStuckIn insns (sched.CannotStartAlone place) = place < insns
IsStuckIn insns sched.NoMemory = ⊤
