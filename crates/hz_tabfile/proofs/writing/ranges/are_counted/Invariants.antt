use Rattle.std.proofs.Common.{take}
use Rattle.std.specs.Prelude.{All}
use Rattle.hz_auto.specs.Reports.{report_of}
use Rattle.hz_tabtext_model.specs.Texts.{AreCounts}
use Rattle.hz_tabtext_model.specs.Said.{counts_said}
use Rattle.hz_tabfile.proofs.writing.ranges.are_counted.Given as goal

abbrev pub invariant-loop-report : goal.invariant-loop-report
invariant-loop-report l = All (λ report. AreCounts (counts_said (report_of report))) (take l.report-index l.reports)
