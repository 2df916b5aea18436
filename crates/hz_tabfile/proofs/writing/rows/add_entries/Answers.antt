use Rattle.std.proofs.Common.{◌<◌, ℕ, Option, length, ap, sym, arith}
use Rattle.std.specs.Prelude.{None}
use Rattle.hz_pipeline_model.specs.Tables.Tables.{row_of}
use Rattle.hz_tables.specs.Parts.{rows_of}
use Rattle.hz_tabtext_model.specs.Texts.{entry_field}
use Rattle.hz_tabfile.specs.Spaced.{spaced}
use Rattle.hz_io.proofs.Adding.{each_added_as, each_stopped_as, each_done}
use Rattle.hz_tabfile.proofs.writing.rows.add_entries.Goals as goal

pub loop-column-preserved : goal.loop-column-preserved
loop-column-preserved g c =
    let inside : c.loop-column.column < length (row_of (rows_of c.args.table.now) c.args.state) = omega (arith, c.requires.table.width c.args.state c.requires.state, c.columns-column-end.ensures, c.loop-column-test.true) in
    each_added_as (λ (entry : Option ℕ). spaced (entry_field entry)) (row_of (rows_of c.args.table.now) c.args.state) c.loop-column.column None _ inside (ap (λ (entry : Option ℕ). spaced (entry_field entry)) (sym c.step.ensures.next)) c.loop-column.invariant c.in-Ok.ensures

pub returns-in-Err : goal.returns-in-Err
returns-in-Err g c =
    let inside : c.loop-column.column < length (row_of (rows_of c.args.table.now) c.args.state) = omega (arith, c.requires.table.width c.args.state c.requires.state, c.columns-column-end.ensures, c.loop-column-test.true) in
    each_stopped_as (λ (entry : Option ℕ). spaced (entry_field entry)) (row_of (rows_of c.args.table.now) c.args.state) c.loop-column.column None _ inside (ap (λ (entry : Option ℕ). spaced (entry_field entry)) (sym c.step.ensures.next)) c.loop-column.invariant c.in-Err.ensures

pub returns : goal.returns
returns g c = each_done (λ (entry : Option ℕ). spaced (entry_field entry)) (row_of (rows_of c.args.table.now) c.args.state) c.loop-column.column (omega (arith, c.requires.table.width c.args.state c.requires.state, c.columns-column-end.ensures, c.loop-column-test.false)) c.loop-column.invariant

pub add_entry-requires : goal.add_entry-requires
add_entry-requires g c = let same = c.loop-column.invariant.wrote.counted in omega (arith, same, c.requires.faults)
