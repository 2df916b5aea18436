use Rattle.std.proofs.Common.{◌+◌, ◌*◌}
use Rattle.hz_altern.proofs.Nodes.{nodes, all_nodes}
use Rattle.hz_layer_rows.proofs.automata.alternatives.+names.Given as goal

abbrev pub decreases-holds : goal.decreases-holds
decreases-holds g l = 2 * nodes l.expr.now

abbrev pub decreases-holds_all : goal.decreases-holds_all
decreases-holds_all g l = 2 * all_nodes l.parts.now + 1
