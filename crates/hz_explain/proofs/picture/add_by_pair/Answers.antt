use Rattle.std.proofs.Common.{ap}
use Rattle.std.specs.List.{find}
use Rattle.hz_reasons.specs.Plans.{unit_of}
use Rattle.hz_why_model.specs.Reasons.{same_place}
use Rattle.hz_explain.specs.Showing.{listed_for}
use Rattle.hz_explain.specs.Telling.{unit_in}
use Rattle.hz_explain.proofs.GatherLaws.{pair_before, pair_from}
use Rattle.hz_explain.proofs.picture.add_by_pair.Goals as goal

pub returns-then-pair-age-clause-added : goal.returns-then-pair-age-clause-added
returns-then-pair-age-clause-added c = λ u test. ap (find test) (pair_before (listed_for c.args.held.now.items u) c.args.age c.args.pair.cycle (same_place (unit_of (unit_in c.args.pair)) u) c.args.holder c.if-pair-age.true)

pub returns-clause-added : goal.returns-clause-added
returns-clause-added c = λ u. pair_from (listed_for c.args.held.now.items u) (listed_for c.add_to_unit.new.held.items u) c.args.age c.args.pair.cycle (same_place (unit_of (unit_in c.args.pair)) u) c.args.holder c.if-pair-age.false (c.in_ok-add_to_unit.ensures.added u)
