-- Traces that are drawn over a machine.
use Rattle.std.specs.Prelude.{IsSome, List}
use Rattle.hz_pipeline_model.specs.Accepting.Events as events
use Rattle.hz_pipeline_model.specs.Tables.Machines.{parts_walk}
use Rattle.hz_replay.specs.Replaying.{Standing}

-- the machine walks these events from where its parts stand
abbrev pub WalksFrom : Standing → List events.Event → Type 0
WalksFrom s t = IsSome (parts_walk s.machine.parts s.states t)
