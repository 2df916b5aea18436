-- When turns repeat on a machine, by the slots of their kernel.
use Rattle.std.specs.Prelude.{◌≡◌, ℕ, zero, suc, ◌+◌, ◌<◌, ◌≤◌, true, is_some, List, [], map, Option, Some, option_and_then, slice_index_or}
use Rattle.std.specs.Global.{Vec}
use Rattle.hz_pipeline_model.specs.Tables.Machines.{Machine, parts_walk, starts_of}
use Rattle.hz_block_model.specs.Scheduling.Schedules.{Graph}
use Rattle.hz_measure_model.specs.Kernels.Kernels.{KernelSlot, interval_trace}
use Rattle.hz_measure_model.specs.Kernels.Repeats.{repeat_limit}
use Rattle.hz_modulo.specs.Walking.{drained_from}

-- A machine, the classes of a body, an interval, and the slots of the kernel.
module _ (m : Machine) (g : Graph) (interval : ℕ) (kernel : List KernelSlot) where
  -- the states at the start of a turn
  abbrev pub edge_by : ℕ → Option (List ℕ)
  edge_by zero = Some (starts_of m)
  edge_by (suc turn) = option_and_then (λ states. parts_walk m.parts states (interval_trace g interval 0 turn kernel)) (edge_by turn)

  -- the states after so many turns, where all their stages are over
  abbrev pub drain_by : (stages turn : ℕ) → Option (List ℕ)
  drain_by stages turn = drained_from m g interval kernel turn (stages + 1) (edge_by turn)

-- Two starts are the first that are the same, once so many turns have begun, and up to the second every number of turns is walked.
pub record RepeatsAt (edge drain : ℕ → Option (List ℕ)) (stages first second : ℕ) : Type 0 where
  pub settled : stages ≤ first
  pub before : first < second
  pub soon : second ≤ stages + repeat_limit
  pub walked : is_some (edge first) ≡ true
  pub same : edge first ≡ edge second
  pub different : (a b : ℕ) → stages ≤ a → a < b → b < second → edge a ≡ edge b → ⊥
  pub each : (count : ℕ) → count ≤ second → is_some (drain count) ≡ true

-- The same of the starts and the drains of a kernel. It says what `Repeats` says of the machine: law
-- `kernels_repeat_as_defined`.
abbrev pub RepeatsBy : (m : Machine) (g : Graph) (interval stages : ℕ) (kernel : List KernelSlot) (first second : ℕ) → Type 0
RepeatsBy m g interval stages kernel = RepeatsAt (edge_by m g interval kernel) (drain_by m g interval kernel stages) stages

-- Two starts are the first that are the same, whatever turns leave at their end.
abbrev pub MeetsBy : (m : Machine) (g : Graph) (interval stages : ℕ) (kernel : List KernelSlot) (first second : ℕ) → Type 0
MeetsBy m g interval stages kernel = RepeatsAt (edge_by m g interval kernel) (λ count. Some []) stages

-- the states that are kept, each as a list
abbrev pub lists_in : List (Vec ℕ) → List (List ℕ)
lists_in held = map (λ v. v.items) held

-- those at an index
abbrev pub states_at : List (List ℕ) → ℕ → List ℕ
states_at lists i = slice_index_or lists i []
