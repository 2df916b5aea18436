use Rattle.std.proofs.Common.{arith, below_more}
use Rattle.hz_reasons.proofs.Reading.{unbroken_read, fits_read}
use Rattle.hz_reasons.proofs.calendar.all_fit.Goals as goal

pub fits_part-requires : goal.fits_part-requires
fits_part-requires c =
    unbroken_read c.args.rules.now c.args.grids.now c.loop-automaton.automaton _ _ c.index-rules-automaton.is c.index-grids-automaton.is (omega arith) (omega arith) c.requires.unbroken

pub loop-automaton-preserved : goal.loop-automaton-preserved
loop-automaton-preserved c = below_more _ _ c.loop-automaton.invariant
    (fits_read c.args.rules.now c.args.grids.now c.args.parts.now c.loop-automaton.automaton _ _ _ c.index-rules-automaton.is c.index-grids-automaton.is c.index-parts-automaton.is (omega arith) (omega arith) (omega arith)
    (c.fits_part.ensures.0 c.if-not-fits_part.false))
