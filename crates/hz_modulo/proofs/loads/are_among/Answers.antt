use Rattle.std.proofs.Common.{ℕ, Contains, arith, rules}
use Rattle.std.proofs.lemmas.Bool.{OnTrue_at}
use Rattle.hz_modulo.proofs.RoomLemmas.{all_more, all_taken}
use Rattle.hz_modulo.proofs.loads.are_among.Goals as goal

pub loop-number-preserved : goal.loop-number-preserved
loop-number-preserved c = all_more (λ (n : ℕ). Contains c.args.others.now n) c.args.numbers.now c.loop-number.number-index _ c.loop-number-test.true (search rules) c.loop-number.invariant (OnTrue_at c.if-not-is_among.false c.is_among.ensures)

pub returns : goal.returns
returns c = all_taken (λ (n : ℕ). Contains c.args.others.now n) c.args.numbers.now c.loop-number.number-index (omega (arith, c.loop-number-test.false)) c.loop-number.invariant
