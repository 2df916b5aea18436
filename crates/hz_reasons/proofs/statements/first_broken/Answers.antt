use Rattle.std.proofs.Common.{arith}
use Rattle.hz_reasons.specs.Breaking.{is_held_with}
use Rattle.hz_reasons.specs.Taken.{is_held}
use Rattle.hz_reasons.proofs.BreakingLaws.{broken_past, broken_here, numbered_here}
use Rattle.hz_reasons.proofs.statements.first_broken.Goals as goal

pub returns-in-Some-clause-pattern : goal.returns-in-Some-clause-pattern
returns-in-Some-clause-pattern c =
    numbered_here c.args.sets.now c.loop-number.number c.index-sets-number.result (omega arith) c.index-sets-number.is c.args.grids.now c.args.parts.now c.in-Some.broken c.in-Some.ensures.number c.in-Some.ensures.pattern

pub returns-in-Some-clause-broken : goal.returns-in-Some-clause-broken
returns-in-Some-clause-broken c =
    broken_here (is_held c.args.grids.now) (is_held c.args.parts.now) (is_held_with c.args.grids.now c.args.parts.now) c.args.sets.now c.args.pairs.now c.loop-number.number c.loop-number.invariant
    c.index-sets-number.result (omega arith) c.index-sets-number.is c.first_break.result c.first_break.ensures.broken c.in-Some.broken c.in-Some.is c.in-Some.ensures.number

pub loop-number-preserved : goal.loop-number-preserved
loop-number-preserved c =
    broken_past (is_held c.args.grids.now) (is_held c.args.parts.now) (is_held_with c.args.grids.now c.args.parts.now) c.args.sets.now c.args.pairs.now c.loop-number.number c.loop-number.invariant
    c.index-sets-number.result (omega arith) c.index-sets-number.is c.first_break.result c.first_break.ensures.broken c.in-None.is
