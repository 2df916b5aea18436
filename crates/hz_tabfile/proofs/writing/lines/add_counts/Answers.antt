use Rattle.std.proofs.Common.{ℕ, List, Bool, [], ◌∷◌, codes, decimal, sym, subst}
use Rattle.std.specs.List.{flat_map}
use Rattle.hz_io.specs.Pages.{Adds}
use Rattle.std.specs.Prelude.{Some, None, if◌then◌else◌}
use Rattle.std.proofs.lemmas.List.{append-nil}
use Rattle.hz_tabtext_model.specs.Texts.{line_text, counts_lines}
use Rattle.hz_tabtext_model.specs.Said.{counts_said}
use Rattle.hz_auto.specs.Reports.{report_of}
use Rattle.hz_tabfile.proofs.writing.lines.add_counts.Goals as goal

pub returns-then-reported : goal.returns-then-reported
returns-then-reported g c =
    subst (λ (reported : Bool). Adds g.S.Sink.written g.S.Sink.room g.S.Sink.faults c.args.out.now c.add_stats.new.out c.args.page.now.items c.add_stats.new.page.items (flat_map line_text (counts_lines (if reported then Some (counts_said (report_of c.args.report.now)) else None))) c.add_stats.result) (sym c.if-reported.true)
    (subst (λ (text : List ℕ). Adds g.S.Sink.written g.S.Sink.room g.S.Sink.faults c.args.out.now c.add_stats.new.out c.args.page.now.items c.add_stats.new.page.items text c.add_stats.result) (sym (append-nil (line_text (codes "stats" ∷ decimal c.args.report.now.grids ∷ decimal c.args.report.now.states ∷ decimal c.args.report.now.members ∷ [])))) c.add_stats.ensures)
