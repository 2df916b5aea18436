use Rattle.hz_altern.specs.Extents.{reported}
use Rattle.hz_altern.proofs.TableLemmas.{adds_from_updates}
use Rattle.hz_altern.proofs.extents.Extents.add.Goals as goal

pub returns-clause-added : goal.returns-clause-added
returns-clause-added c = adds_from_updates reported c.args.self.now.names c.insert.new.self _ c.args.name.now c.args.extent c.in_ok-name.ensures c.in_ok-insert.ensures.updates
