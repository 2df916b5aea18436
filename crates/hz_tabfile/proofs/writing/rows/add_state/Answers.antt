use Rattle.std.proofs.Common.{ℕ, Option, sym, subst, rules, arith}
use Rattle.std.specs.List.{flat_map}
use Rattle.std.specs.Option.{option_map}
use Rattle.hz_io.specs.Pages.{Adds}
use Rattle.hz_io.proofs.Adding.{stopped_before, adds_then, adds_failed}
use Rattle.hz_pipeline_model.specs.Tables.Tables.{IsTable, row_of}
use Rattle.hz_tables.specs.Parts.{rows_of}
use Rattle.hz_auto.specs.declared.report.Shown.{Shown}
use Rattle.hz_auto.specs.Reports.{shown_of}
use Rattle.hz_tabtext_model.specs.Texts.{line_text, row_lines, shown_lines}
use Rattle.hz_tabtext_model.specs.Said.{shown_said, row_said}
use Rattle.hz_tabfile.proofs.writing.rows.add_state.Goals as goal

pub returns-in_err-add_row : goal.returns-in_err-add_row
returns-in_err-add_row g c =
    adds_failed c.add_row.new.page.items c.from_residual.result (search rules)
    (stopped_before (flat_map line_text (shown_lines (option_map (shown_said c.args.units.now c.args.state) (option_map shown_of c.args.report.now.shown)))) c.in_err-add_row.ensures)

pub returns-in-Some : goal.returns-in-Some
returns-in-Some g c =
    subst (λ (shown : Option Shown). Adds g.S.Sink.written g.S.Sink.room g.S.Sink.faults c.args.out.now c.add_shown.new.out c.args.page.now.items c.add_shown.new.page.items (flat_map line_text (row_lines (row_said c.args.units.now (option_map shown_of shown) (c.args.state, row_of (rows_of c.args.part.now.table) c.args.state)))) c.add_shown.result) (sym c.in-Some.is)
    (adds_then c.add_shown.new.out c.add_shown.new.page.items _ c.add_shown.result c.in_ok-add_row.ensures c.add_shown.ensures)

pub add_row-requires-clause-table : goal.add_row-requires-clause-table
add_row-requires-clause-table g c = subst (λ (n : ℕ). IsTable (rows_of c.args.part.now.table) n) c.all_columns.ensures c.requires.writable.table

pub add_row-requires-clause-columns : goal.add_row-requires-clause-columns
add_row-requires-clause-columns g c =
    let all = c.all_columns.ensures in
    let classes = c.requires.writable.columns in
    let asks = c.requires.writable.asks in
    omega (arith, all, classes, asks)
