use Rattle.std.proofs.Common.{◌∙◌}
use Rattle.hz_check_reservations.specs.Numbers.{number_in}
use Rattle.hz_check_reservations.proofs.Naming.{named_all, named_more}
use Rattle.hz_check_reservations.proofs.ordering.numbers.Numbers.+naming.Goals as goal

pub add_named_in-loop-part-preserved : goal.add_named_in-loop-part-preserved
add_named_in-loop-part-preserved t c =
    named_more (number_in c.args.self.now) c.args.parts.now c.loop-part.part-index c.part-item.result c.loop-part.named.items c.add_named.new.named.items c.loop-part-test.true c.part-item.is c.in_ok-add_named.ensures
    ∙ c.loop-part.invariant

pub add_named_in-returns : goal.add_named_in-returns
add_named_in-returns t c = named_all (number_in c.args.self.now) c.args.parts.now c.loop-part.part-index c.loop-part.named.items c.loop-part-test.false ∙ c.loop-part.invariant
