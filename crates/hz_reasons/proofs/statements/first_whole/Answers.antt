use Rattle.std.proofs.Common.{true, false, arith}
use Rattle.std.specs.List.{list_all}
use Rattle.hz_reasons.specs.Breaking.{seen_in}
use Rattle.hz_reasons.specs.Plans.{unit_of}
use Rattle.hz_reasons.proofs.BreakingLaws.{whole_read}
use Rattle.hz_reasons.proofs.Finding.{number_past, number_here}
use Rattle.hz_reasons.proofs.statements.first_whole.Goals as goal

pub returns-then-is_whole-clause-number : goal.returns-then-is_whole-clause-number
returns-then-is_whole-clause-number c =
    number_here (λ pattern. list_all (λ u. seen_in c.args.which c.args.grids.now c.args.parts.now c.args.cycle (unit_of u)) pattern.items) c.args.patterns.now c.loop-number.number c.loop-number.invariant
    c.index-patterns-number.result (omega arith) c.index-patterns-number.is
    (whole_read (λ u. seen_in c.args.which c.args.grids.now c.args.parts.now c.args.cycle (unit_of u)) c.deref.result.now c.index-patterns-number.result.items c.is_whole.result true c.is_whole.ensures c.deref.ensures.value c.if-is_whole.true)

pub loop-number-preserved : goal.loop-number-preserved
loop-number-preserved c =
    number_past (λ pattern. list_all (λ u. seen_in c.args.which c.args.grids.now c.args.parts.now c.args.cycle (unit_of u)) pattern.items) c.args.patterns.now c.loop-number.number c.loop-number.invariant
    c.index-patterns-number.result (omega arith) c.index-patterns-number.is
    (whole_read (λ u. seen_in c.args.which c.args.grids.now c.args.parts.now c.args.cycle (unit_of u)) c.deref.result.now c.index-patterns-number.result.items c.is_whole.result false c.is_whole.ensures c.deref.ensures.value c.if-is_whole.false)
