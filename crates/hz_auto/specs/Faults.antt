-- The count that a fault names.
use Rattle.std.specs.Prelude.{◌≡◌, Bool, if◌then◌else◌, Option, Some, None}
use Rattle.hz_pipeline_model.specs.Reaching.Counts.{Count}
use Rattle.hz_pipeline_model.specs.Reaching.Counts as count
use Rattle.hz_states.specs.declared.fault.StateFault.{StateFault}
use Rattle.hz_states.specs.declared.fault.StateFault.TheVariants.{GridLimit, SetLimit, MemberLimit, CellLimit, NoMemory}
use Rattle.hz_auto.specs.declared.fault.Kind.{Kind}
use Rattle.hz_auto.specs.declared.fault.Kind.TheVariants.{Grids, States, Members, Cells}

-- what is counted
abbrev pub count_of : Kind → Count
count_of Grids = count.grids
count_of States = count.states
count_of Members = count.members
count_of Cells = count.cells

-- The kind is that of the fault's count, none for want of memory. Without choices grids, states and members are one
-- number, which is named by its grids.
abbrev pub IsKindOf : Bool → StateFault → Option Kind → Type 0
IsKindOf ndfa GridLimit kind = kind ≡ Some Grids
IsKindOf ndfa SetLimit kind = kind ≡ Some (if ndfa then States else Grids)
IsKindOf ndfa MemberLimit kind = kind ≡ Some (if ndfa then Members else Grids)
IsKindOf ndfa CellLimit kind = kind ≡ Some Cells
IsKindOf ndfa NoMemory kind = kind ≡ None
