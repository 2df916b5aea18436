use Rattle.std.proofs.Common.{All, drop}
use Rattle.hz_replay.specs.Lines.{event_of}
use Rattle.hz_report.specs.Replays.{AsksNothing}
use Rattle.hz_report.proofs.replayed.up_to_last_ask.Given as goal

-- no ask is among the events that were looked at
abbrev pub invariant-loop-place : goal.invariant-loop-place
invariant-loop-place l = All (λ e. AsksNothing (event_of e.what)) (drop l.place l.events)
