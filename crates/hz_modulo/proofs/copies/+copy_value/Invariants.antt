use Rattle.std.proofs.Common.{◌+◌}
use Rattle.hz_rtl.specs.Shape.{value}
use Rattle.hz_modulo.proofs.CopyLemmas.{size}
use Rattle.hz_modulo.proofs.copies.+copy_value.Given as goal

abbrev pub decreases-copy_boxed : goal.decreases-copy_boxed
decreases-copy_boxed l = size (value l.from.now) + 1

abbrev pub decreases-copy_value : goal.decreases-copy_value
decreases-copy_value l = size (value l.from.now)
