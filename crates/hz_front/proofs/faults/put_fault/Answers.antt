use Rattle.std.proofs.Common.{ℕ, List, sym, subst}
use Rattle.std.specs.Option.{option_map}
use Rattle.hz_base_model.specs.Reported.{reported_in}
use Rattle.hz_io.specs.Sink.{Cut, Writes}
use Rattle.hz_io.proofs.Writing.{cut_before, writes_then}
use Rattle.hz_front.specs.Faults.{from_insn}
use Rattle.hz_front.proofs.FaultLines.{line_parts}
use Rattle.hz_front.proofs.faults.put_fault.Goals as goal

pub returns-in-Ok : goal.returns-in-Ok
returns-in-Ok g c =
    let first = option_map (λ n. n.now) c.args.first in
    let second = option_map (λ n. n.now) c.args.second in
    let at = reported_in c.args.at in
    subst (λ (bytes : List ℕ). Writes g.S.Sink.written g.S.Sink.room g.S.Sink.faults c.args.out.now c.put_from_insn.new.out bytes c.put_from_insn.result) (sym (line_parts c.args.file.now c.args.line c.args.kind.now c.args.insn first second at))
    (writes_then c.put_from_insn.new.out (from_insn c.args.insn first second at) c.put_from_insn.result c.in-Ok.ensures c.put_from_insn.ensures)

pub returns-in-Err : goal.returns-in-Err
returns-in-Err g c =
    let first = option_map (λ n. n.now) c.args.first in
    let second = option_map (λ n. n.now) c.args.second in
    let at = reported_in c.args.at in
    subst (λ (bytes : List ℕ). Cut g.S.Sink.written g.S.Sink.room g.S.Sink.faults c.args.out.now c.put_head.new.out bytes) (sym (line_parts c.args.file.now c.args.line c.args.kind.now c.args.insn first second at))
    (cut_before (from_insn c.args.insn first second at) c.in-Err.ensures)
