use Rattle.hz_layer_rows.proofs.LeadingRows.{LeadsWithin}
use Rattle.hz_layer_rows.proofs.automata.tables.is_row.Given as goal

abbrev pub invariant-loop-column : goal.invariant-loop-column
invariant-loop-column l = LeadsWithin l.plain.rows l.state l.column
