use Rattle.std.specs.Prelude.{codes, decimal}
use Rattle.hz_explain.proofs.Joining.{joined_three}
use Rattle.hz_explain.proofs.telling.add_many.Goals as goal

pub returns : goal.returns
returns c = joined_three c.args.text.now.items _ _ _ (codes "fits ") (decimal c.args.cycles) (codes " cycles later\n") c.in_ok-add.ensures c.in_ok-add_number.ensures c.in_ok-add-2.ensures
