use Rattle.std.proofs.Common.{List}
use Rattle.std.specs.BTreeSet.{insert_key}
use Rattle.hz_sched.specs.Pending.{Key, key_cmp}
use Rattle.hz_sched.proofs.ResultLemmas.{on_ok}
use Rattle.hz_sched.proofs.RowLemmas.{row_changed}
use Rattle.hz_sched.proofs.queue.Queue.make_ready.Goals as goal

pub returns-clause-row : goal.returns-clause-row
returns-clause-row c = on_ok c.add_ready.result
    (row_changed c.args.self.now.ready.items c.args.class c.index_mut-ready.result.now c.add_ready.new.ready c.requires.class (λ (ks : List Key). insert_key key_cmp ks c.args.key) c.args.self.now.heads.keys c.add_ready.new.heads.keys c.index_mut-ready.ensures.value)
    c.add_ready.ensures.ready c.add_ready.ensures.ready_ordered c.add_ready.ensures.heads c.add_ready.ensures.heads_ordered
