use Rattle.std.proofs.Common.{codes}
use Rattle.hz_pipeline_model.specs.Tables.Tables.{row_of}
use Rattle.hz_tables.specs.Parts.{rows_of}
use Rattle.hz_tabtext_model.specs.Texts.{entry_field}
use Rattle.std.proofs.Common.{rules}
use Rattle.hz_io.proofs.Adding.{adds_failed}
use Rattle.hz_tabfile.proofs.LineTexts.{line_word_stopped, line_fields_stopped, line_added}
use Rattle.hz_tabfile.proofs.writing.rows.add_row.Goals as goal

pub returns-in_err-add : goal.returns-in_err-add
returns-in_err-add g c = adds_failed c.add.new.page.items c.from_residual.result (search rules) (line_word_stopped (codes "row") entry_field (row_of (rows_of c.args.table.now) c.args.state) c.in_err-add.ensures)

pub returns-in_err-add_entries : goal.returns-in_err-add_entries
returns-in_err-add_entries g c = adds_failed c.add_entries.new.page.items c.from_residual-in_err-add_entries.result (search rules) (line_fields_stopped (codes "row") entry_field (row_of (rows_of c.args.table.now) c.args.state) c.in_ok-add.ensures c.in_err-add_entries.ensures)

pub returns : goal.returns
returns g c = line_added (codes "row") entry_field (row_of (rows_of c.args.table.now) c.args.state) c.end_line.new.out c.end_line.new.page.items c.end_line.result c.in_ok-add.ensures c.in_ok-add_entries.ensures c.end_line.ensures
