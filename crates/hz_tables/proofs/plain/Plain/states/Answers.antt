use Rattle.std.proofs.Common.{sym}
use Rattle.hz_tables.proofs.RowLaws.{keeps_rows, length-rows_in}
use Rattle.hz_tables.proofs.plain.Plain.states.Goals as goal

pub returns-clause-states : goal.returns-clause-states
returns-clause-states c = rw (← c.self.view_is) (sym (length-rows_in _ c.self.inside.states c.self.inside.cells.items))

pub returns-clause-kept : goal.returns-clause-kept
returns-clause-kept c = rw (← c.self.view_is) (keeps_rows c.self.inside.columns c.self.inside.states c.self.inside.cells.items c.self.invariant)
