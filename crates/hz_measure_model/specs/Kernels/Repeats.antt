-- Which intervals repeat: the costs of three turns are kept, and the states of the machine at two edges are the same. Modulo
-- scheduling as in this profile, docs/RULES.md, 'Kernels of loops'.
use Rattle.std.specs.Prelude.{◌≡◌, ℕ, ◌+◌, ◌<◌, ◌≤◌, true, List, length}
use Rattle.std.specs.List.{Contains, repeat}
use Rattle.hz_block_model.specs.Running.Blocks.{Instruction}
use Rattle.hz_description_model.specs.Reading.Descriptions.{Description}
use Rattle.hz_block_model.specs.Dependences.Dependences.{depends, cost, Timing}
use Rattle.hz_pipeline_model.specs.Tables.Machines.{Machine, machine_walk, IsWalked}
use Rattle.hz_block_model.specs.Scheduling.Schedules.{Graph, Slot, spell}
use Rattle.hz_block_model.specs.Scheduled.BlockGraphs.{timing_in, classes_of}
use Rattle.hz_measure_model.specs.Kernels.Turns.{repeated, turns, start, stages}

-- the timing of so many copies of a body in a row, by its graph
abbrev pub timing_of_copies : Description → List Instruction → Graph → ℕ → Timing
timing_of_copies d body g count = timing_in d (repeat count (classes_of g)) (repeat count body)

-- in so many turns each dependence of the copies of the body keeps its cost
abbrev pub KeepsCosts : (body : List Instruction) (t : Timing) (interval : ℕ) (slots : List Slot) (count : ℕ) → Type 0
KeepsCosts body t interval slots count =
    (x y : Slot) → Contains (turns (length body) interval slots count) x → Contains (turns (length body) interval slots count) y
    → depends (repeat count body) x.place y.place ≡ true → x.cycle + cost (repeat count body) t x.place y.place ≤ y.cycle

-- the instructions of a loop's body, at most
abbrev pub body_limit : ℕ
body_limit = 256

-- the most stages that an interval may have, and the number of turns in which the states have to repeat
abbrev pub stage_limit : ℕ
stage_limit = 32

abbrev pub repeat_limit : ℕ
repeat_limit = 1024

-- `Repeats`: the interval keeps the costs of three turns, and the machine has the same states at the starts of two turns, the first
-- two that are the same. Up to the second every number of turns is walked. `t` is the timing of three copies of the body. Laws:
-- `three_turns_are_enough`, `intervals_that_repeat_keep_every_turn`.
pub record Repeats (m : Machine) (body : List Instruction) (t : Timing) (g : Graph) (slots : List Slot) (interval first second : ℕ) : Type 0 where
  pub few : stages interval slots ≤ stage_limit
  pub costs : KeepsCosts body t interval slots 3
  pub settled : stages interval slots ≤ first
  pub before : first < second
  pub soon : second ≤ stages interval slots + repeat_limit
  pub walked : IsWalked m (start (length body) interval slots g first)
  pub same : machine_walk m (start (length body) interval slots g first) ≡ machine_walk m (start (length body) interval slots g second)
  pub different : (a b : ℕ) → stages interval slots ≤ a → a < b → b < second → machine_walk m (start (length body) interval slots g a) ≡ machine_walk m (start (length body) interval slots g b) → ⊥
  pub each : (count : ℕ) → count ≤ second → IsWalked m (spell (repeated g count) (turns (length body) interval slots count))

-- The kernel of a body: the least interval of one cycle or more that repeats, and the first two starts with the same states. Laws:
-- `every_body_has_a_kernel`, `one_kernel`.
pub record IsKernel (m : Machine) (body : List Instruction) (t : Timing) (g : Graph) (slots : List Slot) (interval first second : ℕ) : Type 0 where
  pub some : 1 ≤ interval
  pub repeats : Repeats m body t g slots interval first second
  pub least : (shorter a b : ℕ) → 1 ≤ shorter → shorter < interval → Repeats m body t g slots shorter a b → ⊥
