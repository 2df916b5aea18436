use Rattle.std.proofs.Common.{◌≡◌, ℕ, List, ◌++◌, drop}
use Rattle.hz_io.specs.Sink.{Wrote}
use Rattle.hz_rtl.proofs.LineLemmas.{register_lines}
use Rattle.hz_rtl.proofs.listing.put_registers.Given as goal

-- what is written so far, and what the registers left make of it
abbrev pub invariant-loop-number : goal.invariant-loop-number
invariant-loop-number g l = record {
  written : List ℕ;
  wrote : Wrote g.S.Sink.written g.S.Sink.room g.S.Sink.faults l.fn.out l.out written;
  parts : written ++ register_lines l.number (drop l.number l.registers) ≡ register_lines 0 l.registers;
}
