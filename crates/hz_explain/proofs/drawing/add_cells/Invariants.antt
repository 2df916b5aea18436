use Rattle.std.proofs.Common.{◌≡◌, ◌++◌, map, take}
use Rattle.hz_explain.specs.Drawing.{cell_text, cells}
use Rattle.hz_explain.proofs.drawing.add_cells.Given as goal

abbrev pub invariant-loop-line : goal.invariant-loop-line
invariant-loop-line l = l.text.items ≡ l.fn.text.items ++ cells l.columns (map cell_text (take l.line-index l.lines))
