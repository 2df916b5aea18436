use Rattle.hz_check_reservations.proofs.TableLemmas.{adds_from_updates}
use Rattle.hz_check_reservations.proofs.rules.table.Table.add.Goals as goal

pub returns : goal.returns
returns c = adds_from_updates c.args.self.now.names c.insert.new.self _ c.args.name.now c.args.habits c.in_ok-name.ensures c.in_ok-insert.ensures.updates
