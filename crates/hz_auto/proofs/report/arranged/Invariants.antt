use Rattle.std.proofs.Common.{◌≡◌, take, map, All}
use Rattle.hz_grid.specs.Grids.{IsGrid}
use Rattle.hz_pipeline_model.specs.Reaching.Built.{grid_at}
use Rattle.hz_auto.proofs.report.arranged.Given as goal

abbrev pub invariant-loop-number : goal.invariant-loop-number
invariant-loop-number l = record {
  copied : l.state.items ≡ map (grid_at l.grids) (take l.number-index l.set);
  each : All IsGrid l.state.items;
}
