use Rattle.std.proofs.Common.{w64}
use Rattle.std.proofs.lemmas.Nat.Bits.{bit_at_and, bit_at_or, bit_at_xor, bit_at_not}
use Rattle.hz_block_model.proofs.operator_laws.operators_by_bits.Goals as goal

pub returns-clause-complement : goal.returns-clause-complement
returns-clause-complement c = bit_at_not w64

pub returns-clause-conjunction : goal.returns-clause-conjunction
returns-clause-conjunction c = bit_at_and

pub returns-clause-disjunction : goal.returns-clause-disjunction
returns-clause-disjunction c = bit_at_or

pub returns-clause-exclusive : goal.returns-clause-exclusive
returns-clause-exclusive c = bit_at_xor
