-- What a list scheduler asks of a machine of tables, and what it refuses. This profile, docs/RULES.md, 'List schedules'.
use Rattle.std.specs.Prelude.{◌≡◌, ℕ, ◌+◌, Bool, not, List, [], ◌∷◌, ◌++◌, length, codes, position, All, Option, Some, is_some}
use Rattle.hz_base_model.specs.Limits.{cycle_limit}
use Rattle.hz_description_model.specs.Reading.Limits.{latency_limit}
use Rattle.hz_pipeline_model.specs.Accepting.Events.{Event, issue, advance, IsOfClass}
use Rattle.hz_pipeline_model.specs.Tables.Machines.{Machine, machine_walk, starts_of, IsWalked}
use Rattle.hz_block_model.specs.Scheduling.Schedules.{Graph}

-- A machine settles: after any events of its classes that it walks, `cycle_limit` cycles more lead each part to its start.
pub record Settles (m : Machine) : Type 0 where
  pub settles : (t : List Event) → All (IsOfClass (length m.classes)) t → IsWalked m t → machine_walk m (t ++ advance cycle_limit ∷ []) ≡ Some (starts_of m)

-- A schedule's issue comes at most so many cycles after the one before it: then all waits are over, and the machine has settled.
abbrev pub most_wait : ℕ
most_wait = latency_limit + cycle_limit

-- a class can be issued from the start
abbrev pub can_start : Machine → ℕ → Bool
can_start m class = is_some (machine_walk m (issue class ∷ []))

-- `CannotStartAlone`: the place of the first instruction whose class can't be issued from the start
abbrev pub cannot_start_alone : Machine → Graph → Option ℕ
cannot_start_alone m g = position (λ n. not (can_start m n.class)) g.nodes

-- the word by which it is reported: docs/FORMATS.md, 'Answers'
abbrev pub stuck_word : List ℕ
stuck_word = codes "CannotStartAlone"
