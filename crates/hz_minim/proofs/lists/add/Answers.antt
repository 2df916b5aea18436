use Rattle.std.proofs.Common.{arith}
use Rattle.hz_minim.proofs.ListLaws.{lists_added}
use Rattle.hz_minim.proofs.lists.add.Goals as goal

pub returns : goal.returns
returns g c = lists_added c.args.lists.now.items c.args.place c.index_mut.result.now c.push.new.self c.args.item (omega (arith, c.requires)) c.index_mut.ensures.value c.in_ok-push.ensures.items
