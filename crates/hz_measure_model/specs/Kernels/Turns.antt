-- Turns of a loop's body, overlapped at an interval: each is placed as the list schedule places the body. Modulo scheduling as in
-- this profile, docs/RULES.md, 'Kernels of loops'.
use Rattle.std.specs.Prelude.{ℕ, zero, suc, ◌+◌, ◌*◌, ◌/◌, ◌==◌, List, [], ◌++◌, map, length}
use Rattle.std.specs.List.{filter, flat_map, range_with_len, repeat}
use Rattle.hz_pipeline_model.specs.Accepting.Events.{Event}
use Rattle.hz_block_model.specs.Running.Blocks.{Instruction}
use Rattle.hz_block_model.specs.Running.States.{State, run}
use Rattle.hz_block_model.specs.Scheduling.Schedules.{Graph, Slot, present, advance_to, spell}

-- so many copies of a body's nodes in a row: what a trace asks of the graph of its turns
abbrev pub repeated : Graph → ℕ → Graph
repeated g count = record { nodes = repeat count g.nodes; edges = [] }

-- the slots of the body's schedule that a turn issues at a cycle, by the interval between turns
abbrev pub issued_by : (interval : ℕ) → List Slot → (turn cycle : ℕ) → List Slot
issued_by interval slots turn cycle = filter (λ x. turn * interval + x.cycle == cycle) slots

-- A body of so many instructions, the interval between turns, and the body's schedule.
module _ (size interval : ℕ) (slots : List Slot) where
  -- the places of so many turns, in copies of the body in a row, that are issued at a cycle: by turn, then by place in the schedule
  abbrev pub issued_at : ℕ → ℕ → List ℕ
  issued_at count cycle = flat_map (λ turn. map (λ x. turn * size + x.place) (issued_by interval slots turn cycle)) (range_with_len 0 count)

  -- the slots of so many turns before a cycle
  abbrev pub turns_before : ℕ → ℕ → List Slot
  turns_before count cycle = flat_map (λ c. map (λ place. record { place = place; cycle = c }) (issued_at count c)) (range_with_len 0 cycle)

  -- all slots of so many turns
  abbrev pub turns : ℕ → List Slot
  turns count = turns_before count (count * interval + (present 0 slots + 1))

  -- the trace of endless turns before the start of this turn, advanced to it; no later turn has begun
  abbrev pub start : Graph → ℕ → List Event
  start g turn = spell (repeated g turn) (turns_before turn (turn * interval)) ++ advance_to (present 0 (turns_before turn (turn * interval))) (turn * interval)

-- the stages of a schedule at an interval: how many turns begin after the first, up to its last cycle
abbrev pub stages : ℕ → List Slot → ℕ
stages interval slots = present 0 slots / interval

-- the state that a body leaves, so many times in the order of its source
abbrev pub run_times : List Instruction → ℕ → State → State
run_times body zero s = s
run_times body (suc count) s = run_times body count (run body (range_with_len 0 (length body)) s)
