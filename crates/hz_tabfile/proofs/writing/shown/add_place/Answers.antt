use Rattle.std.proofs.Common.{ℕ, List, codes, decimal, subst, ◌∙◌}
use Rattle.hz_io.specs.Pages.{Adds}
use Rattle.hz_tabfile.proofs.LineTexts.{line_two}
use Rattle.hz_tabfile.proofs.writing.shown.add_place.Goals as goal

pub returns : goal.returns
returns g c =
    subst (λ (text : List ℕ). Adds g.S.Sink.written g.S.Sink.room g.S.Sink.faults c.args.out.now c.add_all.new.out c.args.page.now.items c.add_all.new.page.items text c.add_all.result)
    (line_two (codes "from") c.as_bytes.result.now c.as_bytes-2.result.now (decimal c.args.row) (decimal c.args.column) (c.as_bytes.ensures.value ∙ c.format.ensures.text) (c.as_bytes-2.ensures.value ∙ c.format-2.ensures.text)) c.add_all.ensures
