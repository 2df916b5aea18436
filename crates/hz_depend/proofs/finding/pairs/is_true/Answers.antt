use Rattle.std.proofs.Common.{sym, ◌∙◌}
use Rattle.std.specs.Prelude.{nat_lt, slice_index}
use Rattle.hz_depend.proofs.SameLemmas.{or_else, meet_cells}
use Rattle.hz_depend.proofs.finding.pairs.is_true.Goals as goal

pub returns-else-is_passed : goal.returns-else-is_passed
returns-else-is_passed c =
    or_else _ _ _ _ (sym c.is_passed.ensures) c.if-is_passed.false
    (c.meet.ensures ∙ meet_cells (λ r. nat_lt c.args.i (slice_index c.args.last.now r)) c.args.first.now.access.written.cells.items c.args.second.now.access.read.cells.items)
