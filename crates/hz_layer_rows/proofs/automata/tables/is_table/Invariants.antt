use Rattle.hz_layer_rows.proofs.LeadingRows.{AreRows}
use Rattle.hz_layer_rows.proofs.automata.tables.is_table.Given as goal

abbrev pub invariant-loop-state : goal.invariant-loop-state
invariant-loop-state l = AreRows l.plain.rows l.plain.columns l.state
