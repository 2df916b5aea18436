use Rattle.std.proofs.Common.{◌<◌, ◌++◌, ◌+◌, [], List, ℕ, length, get_or, drop, refl, subst, arith}
use Rattle.hz_io.specs.Sink.{Wrote, Cut}
use Rattle.hz_io.proofs.Writing.{wrote_nothing, wrote_then, wrote_then_cut, cut_before}
use Rattle.hz_block_model.specs.Texts.StateTexts.{register_line}
use Rattle.hz_rtl.proofs.LineLemmas.{register_lines, register_parts, registers_done}
use Rattle.hz_rtl.proofs.listing.put_registers.Goals as goal

pub loop-number-init : goal.loop-number-init
loop-number-init g c = record { written = []; wrote = wrote_nothing c.args.out.now; parts = refl }

pub loop-number-preserved : goal.loop-number-preserved
loop-number-preserved g c =
    let words = c.args.registers.now in
    let i = c.loop-number.number in
    let before = c.loop-number.invariant in
    let inside : i < length words = omega arith in
    record {
      written = before.written ++ register_line (i, get_or words i _);
      wrote = wrote_then before.wrote c.in-Ok.ensures;
      parts = register_parts words i _ before.written (register_lines 0 words) inside before.parts;
    }

pub returns-in-Err : goal.returns-in-Err
returns-in-Err g c =
    let words = c.args.registers.now in
    let i = c.loop-number.number in
    let before = c.loop-number.invariant in
    let inside : i < length words = omega arith in
    subst (λ (bytes : List ℕ). Cut g.S.Sink.written g.S.Sink.room g.S.Sink.faults c.args.out.now c.put_register.new.out bytes) (register_parts words i _ before.written (register_lines 0 words) inside before.parts)
    (cut_before (register_lines (i + 1) (drop (i + 1) words)) (wrote_then_cut before.wrote c.in-Err.ensures))

pub returns : goal.returns
returns g c =
    let words = c.args.registers.now in
    let i = c.loop-number.number in
    let before = c.loop-number.invariant in
    subst (λ (bytes : List ℕ). Wrote g.S.Sink.written g.S.Sink.room g.S.Sink.faults c.args.out.now c.loop-number.out bytes) (registers_done words i before.written (register_lines 0 words) (omega arith) before.parts) before.wrote

pub put_register-requires : goal.put_register-requires
put_register-requires g c = let same = c.loop-number.invariant.wrote.counted in omega (arith, same, c.requires)
