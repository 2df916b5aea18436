-- What is known of two blocks by a description.
use Rattle.std.specs.Prelude.{⊤, ◌≡◌, ◌⊎◌, ◌==◌, ℕ, ◌<◌, List, MatchBool}
use Rattle.std.specs.Borrow.{Bor}
use Rattle.hz_pipeline_model.specs.Tables.Machines.{Machine, IsWalked}
use Rattle.hz_block_model.specs.Scheduling.Schedules.{Graph, Slot, Legal, Greedy, present}
use Rattle.hz_duo.specs.declared.fault.DuoFault.{DuoFault}
use Rattle.hz_duo.specs.declared.fault.DuoFault.TheVariants as duo
use Rattle.hz_rtl.specs.declared.block.Insn.{Insn}
use Rattle.hz_sched.specs.declared.fault.SchedFault.TheVariants as sched
use Rattle.hz_front.specs.declared.refusal.Refusal.{Refusal}
use Rattle.hz_front.specs.declared.refusal.Refusal.TheVariants as refusal
use Rattle.hz_tool.specs.Refusing.{TellsStuck}

-- The cycle is the last of a schedule of the graph that is legal and greedy on a machine.
pub record IsLastOf (m : Machine) (g : Graph) (cycle : ℕ) : Type 0 where
  pub slots : List Slot
  pub legal : Legal (IsWalked m) g slots
  pub greedy : Greedy (IsWalked m) g slots
  pub last : cycle ≡ present 0 slots

-- a fault of the schedule of two blocks of so many instructions
abbrev pub IsStuckOfTwo : ℕ → ℕ → DuoFault → Type 0
IsStuckOfTwo n m (duo.CannotStartAlone context place) = ((context ≡ 1) × (place < n)) ⊎ ((context ≡ 2) × (place < m))
IsStuckOfTwo n m duo.NoMemory = ⊤

-- What is refused of two blocks without a schedule, by the instruction at the place of the block of the context.
abbrev pub TellsStuckOfTwo : Bor (List ℕ) → Bor (List ℕ) → List Insn → List Insn → DuoFault → Refusal → Type 0
TellsStuckOfTwo first second one other (duo.CannotStartAlone context place) reported =
    MatchBool (context == 1) (TellsStuck first one (sched.CannotStartAlone place) reported) (TellsStuck second other (sched.CannotStartAlone place) reported)
TellsStuckOfTwo first second one other duo.NoMemory reported = reported ≡ refusal.Memory
