use Rattle.std.proofs.Common.{take}
use Rattle.std.specs.List.{flat_map}
use Rattle.hz_io.specs.Sink.{Wrote}
use Rattle.hz_timed.specs.Reads.{line_by}
use Rattle.hz_timed.proofs.writing.put_reads.Given as goal

-- the lines so far
abbrev pub invariant-loop-read : goal.invariant-loop-read
invariant-loop-read g l =
    Wrote g.S.Sink.written g.S.Sink.room g.S.Sink.faults l.fn.out l.out (flat_map (line_by l.fn.block l.fn.slots) (take l.read-index l.reads))
