use Rattle.hz_modulo.proofs.EdgeLemmas.{no_fault, are_turn_edges, not_wrong}
use Rattle.hz_modulo.proofs.edges.turn_edges.Goals as goal

pub returns-in-Ok : goal.returns-in-Ok
returns-in-Ok c = are_turn_edges c.args.checked.now c.args.block.now c.in_ok-turns.turns c.args.known.now c.requires.graph c.in_ok-turns.ensures _ c.in-Ok.made c.in-Ok.ensures.graph c.in-Ok.ensures.schedulable

pub unreachable-requires : goal.unreachable-requires
unreachable-requires c =
    not_wrong c.graph.result c.in-Err-Class.field-0 c.in-Err-Class.field-0-0 c.in-Err-Class.field-0-1 _ c.in-Err-Class.is c.in-Err-Class.field-0-is c.graph.ensures.fault
    (no_fault c.args.checked.now c.args.block.now c.in_ok-turns.turns c.args.known.now c.requires.graph c.in_ok-turns.ensures)
