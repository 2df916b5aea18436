-- What the issues of events took.
use Rattle.std.specs.Prelude.{ℕ, ◌+◌, ◌≤◌, List}
use Rattle.std.specs.List.{Contains}
use Rattle.hz_base_model.specs.Pairs.{Pair, placed}
use Rattle.hz_pipeline_model.specs.Accepting.Replay.{Pipeline, chosen}
use Rattle.hz_why_model.specs.Holders.{Entry, entries_of}
use Rattle.hz_why_model.specs.Ways.{Way}

-- what an issue took, with its line and its class
abbrev pub taken_by : {U : Type 0} → Pipeline U → Way → List (Entry U)
taken_by m way = entries_of way.line way.class (placed way.cycle (chosen m way.class way.number))

-- the issue took something in cycle `now` or later
abbrev pub HoldsFrom : {U : Type 0} → Pipeline U → (now : ℕ) → Way → Type 0
HoldsFrom {U} m now way = (p : Pair U) × Contains (chosen m way.class way.number) p × (now ≤ way.cycle + p.cycle)
