use Rattle.std.proofs.Common.{arith}
use Rattle.hz_tables.proofs.PackedLaws.{entries_kept, most_kept}
use Rattle.hz_tables.proofs.packed.Packed.places.Goals as goal

pub returns-clause-each : goal.returns-clause-each
returns-clause-each g c = let all = entries_kept (record { columns = c.self.inside.columns; bases = c.self.inside.bases; owners = c.self.inside.pairs.owners; targets = c.self.inside.pairs.targets }) c.args.self.now c.self.view_is c.self.invariant in let is = c.count.ensures in omega arith

pub returns-clause-most : goal.returns-clause-most
returns-clause-most g c = let all = most_kept (record { columns = c.self.inside.columns; bases = c.self.inside.bases; owners = c.self.inside.pairs.owners; targets = c.self.inside.pairs.targets }) c.args.self.now c.self.view_is c.self.invariant in let is = c.count.ensures in omega arith
