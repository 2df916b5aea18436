use Rattle.hz_auto.specs.GridLists.{lists_eq-laws, lists_eq-Decides}
use Rattle.hz_auto.proofs.ColumnLemmas.{inserted}
use Rattle.hz_auto.proofs.columns.number_of.Goals as goal

pub returns : goal.returns
returns c = inserted lists_eq-laws lists_eq-Decides c.args.lists.now.keys c.args.list c.in_ok-index.index c.insert_full.new.self.keys c.in_ok-index.ensures.keys c.in_ok-index.ensures.stored
