use Rattle.hz_sched.proofs.RowLemmas.{one_added}
use Rattle.hz_sched.proofs.adjacency.add.Goals as goal

pub returns-clause-added : goal.returns-clause-added
returns-clause-added c = one_added c.args.rows.now.items c.index_mut-row.result.now c.push.new.self c.args.edge c.requires.within c.index_mut-row.ensures.value c.in_ok-push.ensures.items
