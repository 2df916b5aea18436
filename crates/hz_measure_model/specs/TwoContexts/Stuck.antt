-- Which instruction of two blocks can't be issued. This profile, docs/RULES.md, 'Two contexts'.
use Rattle.std.specs.Prelude.{ℕ, Option, Some, None}
use Rattle.hz_pipeline_model.specs.Tables.Machines.{Machine}
use Rattle.hz_block_model.specs.Scheduling.Machines.{cannot_start_alone}
use Rattle.hz_block_model.specs.Scheduling.Schedules.{Graph}

-- a place with its context, the first context before the second
abbrev pub first_of_two : Option ℕ → Option ℕ → Option (ℕ × ℕ)
first_of_two (Some place) _ = Some (1, place)
first_of_two None (Some place) = Some (2, place)
first_of_two None None = None

-- `CannotStartAlone` of two graphs: the context and the place of the first instruction whose class can't be issued from the start
abbrev pub stuck_of_two : Machine → Graph → Graph → Option (ℕ × ℕ)
stuck_of_two m g h = first_of_two (cannot_start_alone m g) (cannot_start_alone m h)
