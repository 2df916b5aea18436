use Rattle.std.proofs.Common.{◌≡◌, drop}
use Rattle.hz_pipeline_model.specs.Traces.TraceNames.{query_from, query_place}
use Rattle.hz_replay.proofs.names.Names.unit.Given as goal

-- no part so far has the name
abbrev pub invariant-loop-part : goal.invariant-loop-part
invariant-loop-part l = query_from l.part (drop l.part l.self.queries) l.name ≡ query_place l.self l.name
