use Rattle.std.proofs.Common.{ℕ, List, Bool, codes, sym, subst, refl}
use Rattle.hz_io.specs.Pages.{Adds}
use Rattle.hz_tabtext_model.specs.Texts.{line_text, header_line}
use Rattle.hz_tabfile.proofs.LineTexts.{line_one}
use Rattle.hz_tabfile.proofs.writing.parts.add_header.Goals as goal

pub returns-then-asked : goal.returns-then-asked
returns-then-asked g c =
    subst (λ (asked : Bool). Adds g.S.Sink.written g.S.Sink.room g.S.Sink.faults c.args.out.now c.add.new.out c.args.page.now.items c.add.new.page.items (line_text (header_line asked)) c.add.result) (sym c.if-asked.true)
    (subst (λ (text : List ℕ). Adds g.S.Sink.written g.S.Sink.room g.S.Sink.faults c.args.out.now c.add.new.out c.args.page.now.items c.add.new.page.items text c.add.result) (line_one (codes "hazard-tables") (codes "2") (codes "2") refl) c.add.ensures)

pub returns-else-asked : goal.returns-else-asked
returns-else-asked g c =
    subst (λ (asked : Bool). Adds g.S.Sink.written g.S.Sink.room g.S.Sink.faults c.args.out.now c.add-else-asked.new.out c.args.page.now.items c.add-else-asked.new.page.items (line_text (header_line asked)) c.add-else-asked.result) (sym c.if-asked.false)
    (subst (λ (text : List ℕ). Adds g.S.Sink.written g.S.Sink.room g.S.Sink.faults c.args.out.now c.add-else-asked.new.out c.args.page.now.items c.add-else-asked.new.page.items text c.add-else-asked.result) (line_one (codes "hazard-tables") (codes "1") (codes "1") refl) c.add-else-asked.ensures)
