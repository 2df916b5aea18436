use Rattle.std.proofs.Common.{◌+◌, ◌*◌}
use Rattle.hz_altern.proofs.Nodes.{nodes, all_nodes}
use Rattle.hz_altern.proofs.extents.counting.+counting.Given as goal

abbrev pub decreases-measured : goal.decreases-measured
decreases-measured g l = 2 * nodes l.expr.now

abbrev pub decreases-measured_parts : goal.decreases-measured_parts
decreases-measured_parts g l = 2 * all_nodes l.parts.now + 1
