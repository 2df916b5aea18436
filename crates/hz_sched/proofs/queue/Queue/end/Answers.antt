use Rattle.std.proofs.Common.{List}
use Rattle.std.specs.BTreeMap.{is_at}
use Rattle.std.specs.Set.{remove_key}
use Rattle.hz_sched.specs.Pending.{Key, key_cmp}
use Rattle.hz_sched.proofs.ResultLemmas.{on_ok}
use Rattle.hz_sched.proofs.RowLemmas.{row_changed}
use Rattle.hz_sched.proofs.queue.Queue.end.Goals as goal

pub returns-clause-row : goal.returns-clause-row
returns-clause-row c = on_ok c.remove_ready.result
    (row_changed c.args.self.now.ready.items c.args.class c.index_mut-ready.result.now c.remove_ready.new.ready c.requires.class (λ (ks : List Key). remove_key (is_at (key_cmp c.args.key)) ks) c.args.self.now.heads.keys c.remove_ready.new.heads.keys c.index_mut-ready.ensures.value)
    c.remove_ready.ensures.ready c.remove_ready.ensures.ready_ordered c.remove_ready.ensures.heads c.remove_ready.ensures.heads_ordered
