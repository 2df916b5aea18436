use Rattle.std.proofs.Common.{ℕ, List, Option, codes, sym, subst, refl}
use Rattle.hz_io.specs.Pages.{Adds}
use Rattle.hz_tabtext_model.specs.Texts.{line_text, origin_line}
use Rattle.hz_tabfile.proofs.LineTexts.{line_one}
use Rattle.hz_tabfile.proofs.writing.shown.add_origin.Goals as goal

pub returns-in-None : goal.returns-in-None
returns-in-None g c =
    subst (λ (origin : Option (ℕ × ℕ)). Adds g.S.Sink.written g.S.Sink.room g.S.Sink.faults c.args.out.now c.add.new.out c.args.page.now.items c.add.new.page.items (line_text (origin_line origin)) c.add.result) (sym c.in-None.is)
    (subst (λ (text : List ℕ). Adds g.S.Sink.written g.S.Sink.room g.S.Sink.faults c.args.out.now c.add.new.out c.args.page.now.items c.add.new.page.items text c.add.result) (line_one (codes "from") (codes "-") (codes "-") refl) c.add.ensures)
