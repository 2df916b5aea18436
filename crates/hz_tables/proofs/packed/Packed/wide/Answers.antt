use Rattle.hz_tables.proofs.PackedLaws.{wide_kept}
use Rattle.hz_tables.proofs.packed.Packed.wide.Goals as goal

pub returns : goal.returns
returns g c = wide_kept (record { columns = c.self.inside.columns; bases = c.self.inside.bases; owners = c.self.inside.pairs.owners; targets = c.self.inside.pairs.targets }) c.args.self.now c.self.view_is
