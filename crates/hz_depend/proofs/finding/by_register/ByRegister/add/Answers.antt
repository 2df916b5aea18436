use Rattle.std.proofs.Common.{arith}
use Rattle.hz_depend.proofs.ListLemmas.{list_more_at}
use Rattle.hz_depend.proofs.finding.by_register.ByRegister.add.Goals as goal

pub returns : goal.returns
returns c = list_more_at c.args.self.now.lists.items c.from.result c.args.register c.index_mut.result.now c.put.new.list c.args.place c.from.ensures (let s = c.args.self.now.size in omega arith) c.index_mut.ensures.value c.in_ok-put.ensures
