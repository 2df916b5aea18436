use Rattle.std.proofs.Common.{take}
use Rattle.std.specs.List.{flat_map}
use Rattle.hz_pipeline_model.specs.Tables.Tables.{row_of}
use Rattle.hz_tables.specs.Parts.{rows_of}
use Rattle.hz_tabtext_model.specs.Texts.{entry_field}
use Rattle.hz_tabfile.specs.Spaced.{spaced}
use Rattle.hz_io.specs.Pages.{Added}
use Rattle.hz_tabfile.proofs.writing.rows.add_entries.Given as goal

abbrev pub invariant-loop-column : goal.invariant-loop-column
invariant-loop-column g l =
    Added g.S.Sink.written g.S.Sink.room g.S.Sink.faults l.fn.out l.out l.fn.page.items l.page.items (flat_map (λ entry. spaced (entry_field entry)) (take l.column (row_of (rows_of l.table) l.state)))
