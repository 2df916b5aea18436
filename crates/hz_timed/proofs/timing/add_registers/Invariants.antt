use Rattle.std.proofs.Common.{map}
use Rattle.hz_block_model.specs.Running.States as model
use Rattle.hz_timed.specs.Shape.{read_of}
use Rattle.hz_timed.specs.Reads.{reads_by}
use Rattle.hz_timed.proofs.EffectLemmas.{MappedSoFar}
use Rattle.hz_timed.proofs.timing.add_registers.Given as goal

abbrev pub invariant-loop-number : goal.invariant-loop-number
invariant-loop-number l = MappedSoFar (λ n. reads_by l.fn.look l.fn.slot (model.reg n)) l.fn.registers (map read_of l.fn.reads.items) (map read_of l.reads.items) l.number-index
