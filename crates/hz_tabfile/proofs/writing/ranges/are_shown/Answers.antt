use Rattle.std.proofs.Common.{arith}
use Rattle.std.specs.Prelude.{All}
use Rattle.std.specs.Option.{ForSome}
use Rattle.hz_auto.specs.declared.report.AutoReport.{AutoReport}
use Rattle.hz_grid.specs.Grids.{IsGrid}
use Rattle.hz_tabfile.proofs.Ranges.{all_more, all_done}
use Rattle.hz_tabfile.proofs.writing.ranges.are_shown.Goals as goal

pub loop-report-preserved : goal.loop-report-preserved
loop-report-preserved c = all_more (λ (report : AutoReport). ForSome report.shown (λ shown. All (λ grids. All IsGrid grids.items) shown.grids.items)) c.args.reports.now c.loop-report.report-index c.report-item.result (omega arith) c.report-item.is c.loop-report.invariant c.is_shown.ensures

pub returns : goal.returns
returns c = all_done (λ (report : AutoReport). ForSome report.shown (λ shown. All (λ grids. All IsGrid grids.items) shown.grids.items)) c.args.reports.now c.loop-report.report-index (omega arith) c.loop-report.invariant
