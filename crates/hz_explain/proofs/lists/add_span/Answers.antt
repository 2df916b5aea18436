use Rattle.std.specs.Prelude.{codes, decimal}
use Rattle.hz_explain.proofs.Joining.{joined_three}
use Rattle.hz_explain.proofs.lists.add_span.Goals as goal

pub returns : goal.returns
returns c = joined_three c.args.text.now.items _ _ _ (decimal c.args.first) (codes "-") (decimal c.args.last) c.in_ok-add_count.ensures c.in_ok-add.ensures c.in_ok-add_count-2.ensures
