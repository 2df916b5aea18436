use Rattle.std.proofs.Common.{arith}
use Rattle.hz_auto.specs.declared.report.AutoReport.{AutoReport}
use Rattle.hz_auto.specs.Reports.{report_of}
use Rattle.hz_tabtext_model.specs.Texts.{AreCounts}
use Rattle.hz_tabtext_model.specs.Said.{counts_said}
use Rattle.hz_tabfile.proofs.Ranges.{all_more, all_done}
use Rattle.hz_tabfile.proofs.writing.ranges.are_counted.Goals as goal

pub loop-report-preserved : goal.loop-report-preserved
loop-report-preserved c = all_more (λ (report : AutoReport). AreCounts (counts_said (report_of report))) c.args.reports.now c.loop-report.report-index c.report-item.result (omega arith) c.report-item.is c.loop-report.invariant c.are_counts.ensures

pub returns : goal.returns
returns c = all_done (λ (report : AutoReport). AreCounts (counts_said (report_of report))) c.args.reports.now c.loop-report.report-index (omega arith) c.loop-report.invariant
