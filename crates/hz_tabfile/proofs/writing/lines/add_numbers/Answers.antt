use Rattle.std.proofs.Common.{ℕ, decimal, arith}
use Rattle.hz_tabfile.specs.Spaced.{spaced}
use Rattle.hz_io.proofs.Adding.{each_added, each_stopped, each_done}
use Rattle.hz_tabfile.proofs.writing.lines.add_numbers.Goals as goal

pub loop-number-preserved : goal.loop-number-preserved
loop-number-preserved g c = each_added (λ (number : ℕ). spaced (decimal number)) c.args.numbers.now c.loop-number.number-index _ (omega arith) c.loop-number.invariant c.in-Ok.ensures

pub returns-in-Err : goal.returns-in-Err
returns-in-Err g c = each_stopped (λ (number : ℕ). spaced (decimal number)) c.args.numbers.now c.loop-number.number-index _ (omega arith) c.loop-number.invariant c.in-Err.ensures

pub returns : goal.returns
returns g c = each_done (λ (number : ℕ). spaced (decimal number)) c.args.numbers.now c.loop-number.number-index (omega arith) c.loop-number.invariant

pub add_number-requires : goal.add_number-requires
add_number-requires g c = let same = c.loop-number.invariant.wrote.counted in omega (arith, same, c.requires)
