use Rattle.std.proofs.Common.{sym, ◌∙◌}
use Rattle.hz_tables.proofs.PackedLaws.{states_kept}
use Rattle.hz_tables.proofs.packed.Packed.states.Goals as goal

pub returns-clause-states : goal.returns-clause-states
returns-clause-states g c = c.count.ensures ∙ sym (states_kept (record { columns = c.self.inside.columns; bases = c.self.inside.bases; owners = c.self.inside.pairs.owners; targets = c.self.inside.pairs.targets }) c.args.self.now c.self.view_is)
