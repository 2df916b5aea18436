use Rattle.std.proofs.Common.{take}
use Rattle.std.specs.List.{flat_map}
use Rattle.hz_tabtext_model.specs.Texts.{line_text, grid_line}
use Rattle.hz_tabtext_model.specs.Said.{named_grid}
use Rattle.hz_io.specs.Pages.{Added}
use Rattle.hz_tabfile.proofs.writing.shown.add_grids.Given as goal

abbrev pub invariant-loop-grid : goal.invariant-loop-grid
invariant-loop-grid g l =
    Added g.S.Sink.written g.S.Sink.room g.S.Sink.faults l.fn.out l.out l.fn.page.items l.page.items (flat_map (λ grid. line_text (grid_line (named_grid l.units grid))) (take l.grid-index (l.grids)))
