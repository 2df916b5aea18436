use Rattle.std.proofs.Common.{◌≡◌, ℕ, drop}
use Rattle.hz_depend.specs.Cells.{cells}
use Rattle.hz_depend.specs.Lists.{list_at}
use Rattle.hz_depend.specs.Noted.{Key, hits, put_all, is_unknown, has_base, has_key}
use Rattle.hz_depend.specs.Tables.{cell_places}
use Rattle.hz_depend.proofs.finding.by_cell.ByCell.add_all.Given as goal

-- with the cells that are left, each has its places
abbrev pub invariant-loop-cell : goal.invariant-loop-cell
invariant-loop-cell l = record {
  unknown : put_all (cell_places l.self).unknown (hits is_unknown (cells (drop l.cell-index l.touched)) l.place) ≡ put_all (cell_places l.initial.self).unknown (hits is_unknown (cells l.touched) l.place);
  bases : (b : ℕ) → put_all (list_at (cell_places l.self).bases b) (hits (has_base b) (cells (drop l.cell-index l.touched)) l.place) ≡ put_all (list_at (cell_places l.initial.self).bases b) (hits (has_base b) (cells l.touched) l.place);
  keys : (k : Key) → put_all ((cell_places l.self).keys k) (hits (has_key k) (cells (drop l.cell-index l.touched)) l.place) ≡ put_all ((cell_places l.initial.self).keys k) (hits (has_key k) (cells l.touched) l.place);
}
