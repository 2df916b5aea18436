-- The slots of a kernel: one interval of the turns, in which each stage of the schedule stands once. Modulo scheduling as in this
-- profile, docs/RULES.md, 'Kernels of loops'.
use Rattle.std.specs.Prelude.{ℕ, ◌+◌, ◌*◌, ◌/◌, ◌%◌, ◌-◌, ◌==◌, ◌&&◌, nat_le, List, ◌++◌, map}
use Rattle.std.specs.List.{filter, flat_map, range_with_len}
use Rattle.hz_pipeline_model.specs.Accepting.Events.{Event}
use Rattle.hz_block_model.specs.Scheduling.Schedules.{Graph, Slot, present, advance_to, spell}
use Rattle.hz_measure_model.specs.Kernels.Turns.{stages}

-- An instruction of a kernel: its cycle in the interval, its stage, and its place in the body.
pub record KernelSlot : Type 0 where
  pub offset : ℕ
  pub stage : ℕ
  pub place : ℕ

-- what a slot of the schedule is in the kernel
abbrev pub kernel_of : (interval : ℕ) → Slot → KernelSlot
kernel_of interval x = record { offset = x.cycle % interval; stage = x.cycle / interval; place = x.place }

-- An interval, and the schedule of a body.
module _ (interval : ℕ) (slots : List Slot) where
  -- the instructions of a stage at an offset, by place in the schedule
  abbrev pub kernel_at : (offset stage : ℕ) → List KernelSlot
  kernel_at offset stage = map (λ x. record { offset = offset; stage = stage; place = x.place }) (filter (λ x. stage * interval + offset == x.cycle) slots)

  -- those of an offset, the greater stage first: the older turn
  abbrev pub kernel_row : (offset : ℕ) → List KernelSlot
  kernel_row offset = flat_map (λ back. kernel_at offset (stages interval slots - back)) (range_with_len 0 (stages interval slots + 1))

  -- all, by offset
  abbrev pub kernel_slots : List KernelSlot
  kernel_slots = flat_map kernel_row (range_with_len 0 interval)

-- the instructions of a kernel whose stages lie between two, as slots of one interval
abbrev pub slots_of_stages : (least most : ℕ) → List KernelSlot → List Slot
slots_of_stages least most kernel = map (λ x. record { place = x.place; cycle = x.offset }) (filter (λ x. nat_le least x.stage && nat_le x.stage most) kernel)

-- the trace of one interval in which only these stages stand
abbrev pub interval_trace : Graph → (interval least most : ℕ) → List KernelSlot → List Event
interval_trace g interval least most kernel =
    spell g (slots_of_stages least most kernel) ++ advance_to (present 0 (slots_of_stages least most kernel)) interval
