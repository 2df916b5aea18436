-- What the code holds of two contexts, as what the definitions speak of.
use Rattle.std.specs.Prelude.{◌≡◌, ◌⊎◌, ℕ, ◌<◌, List, map, length, All, Option, Some, None, Result, Ok, Err}
use Rattle.std.specs.declared.alloc.Global.{Global}
use Rattle.std.specs.declared.vec.Vec.{Vec}
use Rattle.hz_pipeline_model.specs.Tables.Machines.{Machine, IsWalked}
use Rattle.hz_block_model.specs.Scheduling.Schedules.{Graph, Slot, Legal, Greedy}
use Rattle.hz_depend.specs.declared.parts.Graph as depend
use Rattle.hz_tables.specs.declared.machine.Machine as tables
use Rattle.hz_measure_model.specs.TwoContexts.Joining.{ContextSlot, joined, in_contexts}
use Rattle.hz_duo.specs.declared.parts.DuoSlot.{DuoSlot}
use Rattle.hz_duo.specs.declared.fault.DuoFault.{DuoFault}
use Rattle.hz_duo.specs.declared.fault.DuoFault.TheVariants.{CannotStartAlone, NoMemory}

abbrev pub context_slot : DuoSlot → ContextSlot
context_slot x = record { context = x.context; place = x.place; cycle = x.cycle }

-- the slots are those of the joined graph, by their contexts, where the first has so many instructions
pub record IsPaired (n : ℕ) (all : List Slot) (slots : List DuoSlot) : Type 0 where
  pub same : map context_slot slots ≡ in_contexts n all

-- The slots are those of a schedule of both graphs that is legal and greedy on a machine.
pub record IsDuoOf (m : Machine) (g h : Graph) (slots : List DuoSlot) : Type 0 where
  pub all : List Slot
  pub legal : Legal (IsWalked m) (joined g h) all
  pub greedy : Greedy (IsWalked m) (joined g h) all
  pub same : map context_slot slots ≡ in_contexts (length g.nodes) all

-- a slot is of an instruction of either context, which have so many
abbrev pub IsOfEither : ℕ → ℕ → DuoSlot → Type 0
IsOfEither n m x = ((x.context ≡ 1) × (x.place < n)) ⊎ ((x.context ≡ 2) × (x.place < m))

abbrev pub AreInRange : ℕ → ℕ → List DuoSlot → Type 0
AreInRange n m slots = All (IsOfEither n m) slots

-- The slots are of instructions of the graphs, and these of classes of the machine.
pub record IsInRange (machine : tables.Machine) (one other : depend.Graph) (issues : List DuoSlot) : Type 0 where
  pub slots : AreInRange (length one.insns.items) (length other.insns.items) issues
  pub first : All (λ i. i.class < length machine.classes.items) one.insns.items
  pub second : All (λ i. i.class < length machine.classes.items) other.insns.items

-- the context and place that are reported, where an instruction can't be issued alone
abbrev pub stuck_in : Result (Vec DuoSlot Global) DuoFault → Option (ℕ × ℕ)
stuck_in (Ok slots) = None
stuck_in (Err (CannotStartAlone context place)) = Some (context, place)
stuck_in (Err NoMemory) = None
