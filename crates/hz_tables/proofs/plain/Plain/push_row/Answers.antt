use Rattle.std.proofs.Common.{◌≡◌, ◌+◌, ◌<◌, length, subst, sym}
use Rattle.hz_tables.specs.Stored.{rows_in, AreCells}
use Rattle.hz_tables.proofs.RowLaws.{keeps_rows, cells_pushed, rows_pushed}
use Rattle.hz_tables.proofs.plain.Plain.push_row.Goals as goal

pub returns-in_err-extend_from_slice-clause-kept : goal.returns-in_err-extend_from_slice-clause-kept
returns-in_err-extend_from_slice-clause-kept c =
    keeps_rows c.self.inside.columns c.self.inside.states _ (subst (AreCells c.self.inside.columns c.self.inside.states) (sym c.in_err-extend_from_slice.ensures.items) c.self.invariant)

pub invariant_of-self-2 : goal.invariant_of-self-2
invariant_of-self-2 c =
    let width : length c.args.row.now ≡ c.self.inside.columns + 1 = rw (← c.self.view_is) at c.requires.width in
    let room : length (rows_in (c.self.inside.columns + 1) c.self.inside.states c.self.inside.cells.items) < 65536 = rw (← c.self.view_is) at c.requires.room in
    cells_pushed c.self.inside.columns c.self.inside.states c.self.inside.cells.items c.args.row.now _ c.self.invariant c.in_ok-extend_from_slice.ensures.items width c.requires.targets room

pub returns-clause-pushed : goal.returns-clause-pushed
returns-clause-pushed c =
    let width : length c.args.row.now ≡ c.self.inside.columns + 1 = rw (← c.self.view_is) at c.requires.width in
    rw (← c.self.view_is) (rows_pushed c.self.inside.columns c.self.inside.states c.self.inside.cells.items c.args.row.now _ c.self.invariant c.in_ok-extend_from_slice.ensures.items width)

pub returns-clause-kept : goal.returns-clause-kept
returns-clause-kept c = keeps_rows c.self.inside.columns _ _ (invariant_of-self-2 c)
