use Rattle.std.proofs.Common.{arith}
use Rattle.std.proofs.Math.Nat.{one-le-pow}
use Rattle.hz_altern.proofs.extents.measure.Extent.repeated.Goals as goal

pub cut-requires-clause-some : goal.cut-requires-clause-some
cut-requires-clause-some c = let low = one-le-pow c.args.times c.args.self.count c.args.self.some in omega arith
