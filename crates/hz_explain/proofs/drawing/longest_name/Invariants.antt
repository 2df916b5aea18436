use Rattle.std.proofs.Common.{◌≡◌, drop}
use Rattle.std.specs.Prelude.{max}
use Rattle.hz_why_model.specs.Pictures.{longest}
use Rattle.hz_explain.specs.Drawing.{names_of}
use Rattle.hz_explain.proofs.drawing.longest_name.Given as goal

abbrev pub invariant-loop-row : goal.invariant-loop-row
invariant-loop-row l = max l.most (longest (names_of (drop l.row-index l.rows))) ≡ longest (names_of l.rows)
