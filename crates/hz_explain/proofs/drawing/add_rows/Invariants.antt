use Rattle.std.proofs.Common.{◌≡◌, ◌++◌, take}
use Rattle.std.specs.List.{flat_map}
use Rattle.hz_explain.specs.Drawing.{layout_in, row_text}
use Rattle.hz_explain.proofs.drawing.add_rows.Given as goal

abbrev pub invariant-loop-row : goal.invariant-loop-row
invariant-loop-row l = l.text.items ≡ l.fn.text.items ++ flat_map (row_text (layout_in l.layout)) (take l.row-index l.rows)
