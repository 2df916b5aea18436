use Rattle.std.proofs.Common.{ℕ, ◌≡◌, arith, subst}
use Rattle.hz_reasons.specs.Calendars.{IsLaterBy}
use Rattle.hz_reasons.proofs.Stepping.{later_more, later_none}
use Rattle.hz_reasons.proofs.calendar.advance_grid.Goals as goal

pub returns-then-length-eq0 : goal.returns-then-length-eq0
returns-then-length-eq0 c = later_none c.loop-cycle._cycle c.args.cycles c.args.grid.now c.loop-cycle.grid c.loop-cycle.invariant (omega arith)
    (λ unit cycle h. let low = c.length.ensures.above unit cycle h in absurd (omega arith))

pub loop-cycle-preserved : goal.loop-cycle-preserved
loop-cycle-preserved c = later_more c.loop-cycle._cycle c.args.grid.now c.loop-cycle.grid c.advance.new.self c.loop-cycle.invariant c.advance.ensures.pairs

pub returns : goal.returns
returns c =
    let all : c.loop-cycle._cycle ≡ c.args.cycles = omega arith in
    subst (λ (n : ℕ). IsLaterBy n c.args.grid.now c.loop-cycle.grid) all c.loop-cycle.invariant
