use Rattle.std.proofs.Common.{ℕ, List, decimal, subst, ◌∙◌}
use Rattle.hz_io.specs.Pages.{Adds}
use Rattle.hz_tabfile.proofs.LineTexts.{line_one}
use Rattle.hz_tabfile.proofs.writing.lines.add_count.Goals as goal

pub returns : goal.returns
returns g c =
    subst (λ (text : List ℕ). Adds g.S.Sink.written g.S.Sink.room g.S.Sink.faults c.args.out.now c.add_all.new.out c.args.page.now.items c.add_all.new.page.items text c.add_all.result)
    (line_one c.args.word.now c.as_bytes.result.now (decimal c.args.count) (c.as_bytes.ensures.value ∙ c.format.ensures.text)) c.add_all.ensures
