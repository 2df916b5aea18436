use Rattle.std.proofs.Common.{[], ◌∙◌}
use Rattle.hz_reasons.specs.Plans.{unit_of}
use Rattle.hz_reasons.proofs.TakenLaws.{held_here}
use Rattle.hz_reasons.proofs.statements.adds.Goals as goal

pub returns-in-Some : goal.returns-in-Some
returns-in-Some c = held_here c.args.parts.now (unit_of c.args.unit) c.args.cycle c.grid.result.now c.from.result c.holds.result (c.grid.ensures ∙ c.in-Some.ensures.lookup.3.1 []) c.from.ensures c.holds.ensures
