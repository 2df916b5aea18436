use Rattle.std.proofs.Common.{ℕ, ◌+◌, ◌<◌, List, length, drop, sym, subst, arith}
use Rattle.std.specs.List.{flat_map}
use Rattle.hz_io.specs.Sink.{Wrote, Cut}
use Rattle.hz_io.proofs.Writing.{wrote_then, wrote_then_cut, cut_before}
use Rattle.hz_io.proofs.PieceTexts.{lines_more, lines_parts}
use Rattle.hz_timed.specs.Reads.{line_by}
use Rattle.hz_timed.proofs.writing.put_reads.Goals as goal

pub put_read-requires-clause-sink : goal.put_read-requires-clause-sink
put_read-requires-clause-sink g c = omega (arith, c.loop-read.invariant.counted, c.requires.sink)

pub loop-read-preserved : goal.loop-read-preserved
loop-read-preserved g c =
    let line = line_by c.args.block.now c.args.slots.now in
    let inside : c.loop-read.read-index < length c.args.reads.now = omega arith in
    subst (λ (bytes : List ℕ). Wrote g.S.Sink.written g.S.Sink.room g.S.Sink.faults c.args.out.now c.put_read.new.out bytes) (sym (lines_more line c.args.reads.now c.loop-read.read-index _ inside))
    (wrote_then c.loop-read.invariant c.in-Ok.ensures)

pub returns-in-Err : goal.returns-in-Err
returns-in-Err g c =
    let line = line_by c.args.block.now c.args.slots.now in
    let inside : c.loop-read.read-index < length c.args.reads.now = omega arith in
    subst (λ (bytes : List ℕ). Cut g.S.Sink.written g.S.Sink.room g.S.Sink.faults c.args.out.now c.put_read.new.out bytes) (sym (lines_parts line c.args.reads.now c.loop-read.read-index _ inside))
    (cut_before (flat_map line (drop (c.loop-read.read-index + 1) c.args.reads.now)) (wrote_then_cut c.loop-read.invariant c.in-Err.ensures))
