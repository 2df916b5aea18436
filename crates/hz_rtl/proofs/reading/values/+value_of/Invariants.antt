use Rattle.std.proofs.Common.{◌+◌, ◌*◌}
use Rattle.hz_sexp.specs.Shape.{tree, trees}
use Rattle.hz_rtl.proofs.HeadLemmas.{size, sizes}
use Rattle.hz_rtl.proofs.reading.values.+value_of.Given as goal

abbrev pub decreases-memory_value : goal.decreases-memory_value
decreases-memory_value l = 3 * sizes (trees l.operands.now) + 1

abbrev pub decreases-unary_value : goal.decreases-unary_value
decreases-unary_value l = 3 * sizes (trees l.operands.now) + 1

abbrev pub decreases-binary_value : goal.decreases-binary_value
decreases-binary_value l = 3 * sizes (trees l.operands.now) + 1

abbrev pub decreases-choice_value : goal.decreases-choice_value
decreases-choice_value l = 3 * sizes (trees l.operands.now) + 1

abbrev pub decreases-value_with : goal.decreases-value_with
decreases-value_with l = 3 * sizes (trees l.operands.now) + 2

abbrev pub decreases-value_of : goal.decreases-value_of
decreases-value_of l = 3 * size (tree l.form.now)
