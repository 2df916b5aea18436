use Rattle.hz_altern.specs.Shapes.{alternatives}
use Rattle.hz_altern.proofs.TableLemmas.{adds_from_updates}
use Rattle.hz_altern.proofs.known.Known.add_reservation.Goals as goal

pub returns-clause-added : goal.returns-clause-added
returns-clause-added c = adds_from_updates (λ entry. alternatives entry.alts.items) c.args.self.now.names c.insert.new.self _ c.args.name.now _ c.in_ok-name.ensures c.in_ok-insert.ensures.updates
