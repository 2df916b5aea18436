use Rattle.std.proofs.Common.{◌≡◌, drop}
use Rattle.std.specs.Prelude.{slice_index}
use Rattle.std.specs.List.{flat_map}
use Rattle.hz_depend.specs.Cells.{cells}
use Rattle.hz_depend.specs.Marks.{marked}
use Rattle.hz_depend.specs.Noted.{cell_candidates}
use Rattle.hz_depend.specs.Tables.{cell_places}
use Rattle.hz_depend.proofs.finding.by_cell.ByCell.mark_all.Given as goal

-- with the cells that are left, the candidates of all are marked
abbrev pub invariant-loop-cell : goal.invariant-loop-cell
invariant-loop-cell l = marked l.stamps l.stamp (flat_map (cell_candidates (cell_places l.self) (slice_index l.last)) (cells (drop l.cell-index l.touched))) ≡ marked l.initial.stamps l.stamp (flat_map (cell_candidates (cell_places l.self) (slice_index l.last)) (cells l.touched))
