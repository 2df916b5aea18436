use Rattle.std.proofs.Common.{◌≡◌, ◌++◌}
use Rattle.hz_why_model.specs.Pictures.{spaces}
use Rattle.hz_explain.proofs.drawing.add_spaces.Given as goal

abbrev pub invariant-loop-space : goal.invariant-loop-space
invariant-loop-space l = l.text.items ≡ l.fn.text.items ++ spaces l._space
