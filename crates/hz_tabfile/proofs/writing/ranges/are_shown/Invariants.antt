use Rattle.std.proofs.Common.{take}
use Rattle.std.specs.Prelude.{All}
use Rattle.std.specs.Option.{ForSome}
use Rattle.hz_grid.specs.Grids.{IsGrid}
use Rattle.hz_tabfile.proofs.writing.ranges.are_shown.Given as goal

abbrev pub invariant-loop-report : goal.invariant-loop-report
invariant-loop-report l = All (λ report. ForSome report.shown (λ shown. All (λ grids. All IsGrid grids.items) shown.grids.items)) (take l.report-index l.reports)
