use Rattle.std.proofs.Common.{take, map}
use Rattle.std.specs.List.{flat_map, enumerate_from}
use Rattle.std.specs.Option.{option_map}
use Rattle.hz_tables.specs.Parts.{rows_of}
use Rattle.hz_auto.specs.Reports.{shown_of}
use Rattle.hz_tabtext_model.specs.Texts.{line_text, row_lines}
use Rattle.hz_tabtext_model.specs.Said.{row_said}
use Rattle.hz_io.specs.Pages.{Added}
use Rattle.hz_tabfile.proofs.writing.rows.add_states.Given as goal

abbrev pub invariant-loop-state : goal.invariant-loop-state
invariant-loop-state g l =
    Added g.S.Sink.written g.S.Sink.room g.S.Sink.faults l.fn.out l.out l.fn.page.items l.page.items (flat_map (λ row. flat_map line_text (row_lines row)) (take l.state (map (row_said l.units (option_map shown_of l.report.shown)) (enumerate_from 0 (rows_of l.part.table)))))
