-- How far a schedule has come. These words are only to prove with.
use Rattle.std.specs.Prelude.{◌≡◌, ℕ, zero, suc, ◌+◌, ◌-◌, ◌<◌, ◌≤◌, true, is_some, if◌then◌else◌, List, [], ◌∷◌, ◌++◌, length, Option, Some}
use Rattle.std.specs.List.{Contains, AllPairs}
use Rattle.hz_pipeline_model.specs.Accepting.Events.{advance}
use Rattle.hz_pipeline_model.specs.Tables.Machines.{Machine, machine_walk, IsWalked}
use Rattle.hz_block_model.specs.Scheduling.Schedules.{Graph, Slot, class_at, present, spell, Greedy, IsCandidate}
use Rattle.hz_block_model.specs.Scheduling.Machines.{can_start}
use Rattle.hz_sched.specs.Waits.{issued_at}

-- These slots are greedy, no candidate stands at a cycle after them and before this one, and the machine is in these states.
pub record IsAt (m : Machine) (g : Graph) (slots : List Slot) (cycle : ℕ) (states : List ℕ) : Type 0 where
  pub reached : present 0 slots ≤ cycle
  pub walked : machine_walk m (spell g slots ++ advance (cycle - present 0 slots) ∷ []) ≡ Some states
  pub rising : AllPairs (λ x y. x.cycle ≤ y.cycle) slots
  pub greedy : Greedy (IsWalked m) g slots
  pub reported : (x : Slot) → Contains slots x → issued_at slots x.place ≡ Some x.cycle
  pub barren : (c j : ℕ) → present 0 slots ≤ c → c < cycle → IsCandidate (IsWalked m) g slots c j → ⊥

-- how many places below a number are not issued
abbrev pub left_below : (ℕ → Option ℕ) → ℕ → ℕ
left_below at zero = 0
left_below at (suc n) = (if is_some (at n) then 0 else 1) + left_below at n

-- The class of each instruction can be issued from the start.
pub record AllStart (m : Machine) (g : Graph) : Type 0 where
  pub alone : (j : ℕ) → j < length g.nodes → can_start m (class_at g j) ≡ true
