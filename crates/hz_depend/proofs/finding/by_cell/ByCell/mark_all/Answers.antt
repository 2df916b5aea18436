use Rattle.std.proofs.Common.{arith}
use Rattle.std.specs.Prelude.{slice_index}
use Rattle.std.specs.Option.{option_map}
use Rattle.hz_depend.specs.Cells.{based}
use Rattle.hz_depend.specs.Noted.{cell_candidates}
use Rattle.hz_depend.specs.Tables.{cell_places}
use Rattle.hz_depend.proofs.MarkLemmas.{marked_more}
use Rattle.hz_depend.proofs.finding.by_cell.ByCell.mark_all.Goals as goal

pub loop-cell-preserved : goal.loop-cell-preserved
loop-cell-preserved c = marked_more (cell_candidates (cell_places c.args.self.now) (slice_index c.args.last.now)) (option_map based) c.args.touched.now c.loop-cell.cell-index _ c.args.stamp c.loop-cell.stamps c.mark.new.stamps _ (omega arith) c.mark.ensures c.loop-cell.invariant
