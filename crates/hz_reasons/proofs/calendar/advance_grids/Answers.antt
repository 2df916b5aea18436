use Rattle.std.proofs.Common.{ℕ, List, sym, subst, arith}
use Rattle.hz_base_model.specs.Pairs.{Pair}
use Rattle.hz_reasons.specs.Calendars.{IsLaterBy}
use Rattle.hz_reasons.proofs.Stepping.{moved_more, moved_all}
use Rattle.hz_reasons.proofs.calendar.advance_grids.Goals as goal

pub loop-grid-preserved : goal.loop-grid-preserved
loop-grid-preserved c = moved_more c.args.cycles c.loop-grid.grid-index c.args.grids.now c.loop-grid.grids c.grid-item.result c.advance_grid.new.grid c.loop-grid.invariant (omega arith) c.grid-item.is
    (subst (λ (g : List (Pair ℕ)). IsLaterBy c.args.cycles g c.advance_grid.new.grid) (sym c.grid-item.is) c.advance_grid.ensures)

pub returns : goal.returns
returns c = moved_all c.args.cycles c.loop-grid.grid-index c.args.grids.now c.loop-grid.grids c.loop-grid.invariant (omega arith)
