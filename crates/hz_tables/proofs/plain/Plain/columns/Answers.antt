use Rattle.hz_tables.proofs.RowLaws.{keeps_rows}
use Rattle.hz_tables.proofs.plain.Plain.columns.Goals as goal

pub returns-clause-kept : goal.returns-clause-kept
returns-clause-kept c = rw (← c.self.view_is) (keeps_rows c.self.inside.columns c.self.inside.states c.self.inside.cells.items c.self.invariant)
