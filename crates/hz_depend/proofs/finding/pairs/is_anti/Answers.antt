use Rattle.std.proofs.Common.{sym, ◌∙◌}
use Rattle.std.specs.Prelude.{nat_lt, slice_index}
use Rattle.hz_depend.proofs.SameLemmas.{or_else, meet_cells}
use Rattle.hz_depend.proofs.finding.pairs.is_anti.Goals as goal

pub returns-else-share : goal.returns-else-share
returns-else-share c =
    or_else _ _ _ _ (sym c.share.ensures) c.if-share.false
    (c.meet.ensures ∙ meet_cells (λ r. nat_lt c.args.i (slice_index c.args.last.now r)) c.args.first.now.access.read.cells.items c.args.second.now.access.written.cells.items)
