use Rattle.std.proofs.Common.{◌≡◌, ◌++◌, map}
use Rattle.std.specs.Prelude.{decimal}
use Rattle.std.specs.List.{range_with_len}
use Rattle.hz_explain.specs.Drawing.{cells}
use Rattle.hz_explain.proofs.drawing.add_cycles.Given as goal

abbrev pub invariant-loop-cycle : goal.invariant-loop-cycle
invariant-loop-cycle l = l.text.items ≡ l.fn.text.items ++ cells l.columns (map decimal (range_with_len 0 l.cycle))
