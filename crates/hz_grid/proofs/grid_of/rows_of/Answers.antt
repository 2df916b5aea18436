use Rattle.std.proofs.lemmas.List.{take_all}
use Rattle.hz_grid.proofs.Steps.{IsRows-nil, HasJust-none, HasJust-more}
use Rattle.hz_grid.proofs.grid_of.rows_of.Goals as goal

pub loop-pair-init : goal.loop-pair-init
loop-pair-init g c = record {
  rows = IsRows-nil _ c.new-rows.ensures.items;
  units = HasJust-none _ c.new-rows.ensures.items;
}

pub loop-pair-preserved : goal.loop-pair-preserved
loop-pair-preserved g c = record {
  rows = c.in_ok-put.ensures.rows;
  units = HasJust-more c.args.pairs.now c.loop-pair.pair-index (0, 0) c.loop-pair.rows.items c.put.new.rows.items c.loop-pair-test.true c.loop-pair.invariant.units c.in_ok-put.ensures.units;
}

pub returns-clause-units : goal.returns-clause-units
returns-clause-units g c = rw (take_all c.loop-pair.pair-index c.args.pairs.now c.loop-pair-test.false) at c.loop-pair.invariant.units
