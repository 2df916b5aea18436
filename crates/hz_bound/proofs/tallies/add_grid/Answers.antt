use Rattle.std.proofs.Common.{arith}
use Rattle.hz_bound.proofs.TallyLemmas.{passing_start, passing_more, passing_end}
use Rattle.hz_bound.proofs.tallies.add_grid.Goals as goal

pub loop-cycle-init : goal.loop-cycle-init
loop-cycle-init c = passing_start c.args.grid.now c.args.number c.length-cycle-end.result c.args.tallies.now c.length-cycle-end.ensures.grid c.length-cycle-end.ensures.above

pub loop-cycle-preserved : goal.loop-cycle-preserved
loop-cycle-preserved c = passing_more c.args.grid.now c.args.number c.length-cycle-end.result c.args.tallies.now c.loop-cycle.cycle c.loop-cycle.tallies c.add_row.new.tallies c.requires.few c.loop-cycle-test.true c.loop-cycle.invariant c.add_row.ensures

pub returns : goal.returns
returns c = passing_end c.args.grid.now c.args.number c.length-cycle-end.result c.args.tallies.now c.loop-cycle.cycle c.loop-cycle.tallies (omega (arith, c.loop-cycle-test.false)) c.length-cycle-end.ensures.grid c.loop-cycle.invariant
