-- Events whose classes go by other numbers, to prove with.
use Rattle.std.specs.Prelude.{ℕ, List, map}
use Rattle.hz_pipeline_model.specs.Accepting.Events.{Event, issue, advance, ask}

-- an event whose class has another number
abbrev pub moved_event : (ℕ → ℕ) → Event → Event
moved_event f (issue k) = issue (f k)
moved_event f (advance n) = advance n
moved_event f (ask a u) = ask a u

abbrev pub moved : (ℕ → ℕ) → List Event → List Event
moved f t = map (moved_event f) t
