use Rattle.std.proofs.Common.{ℕ, List, Bool, codes, sym, subst, refl}
use Rattle.hz_io.specs.Pages.{Adds}
use Rattle.hz_tabtext_model.specs.Texts.{line_text, treatment_line}
use Rattle.hz_tabfile.proofs.LineTexts.{line_one}
use Rattle.hz_tabfile.proofs.writing.parts.add_treatment.Goals as goal

pub returns-then-ndfa : goal.returns-then-ndfa
returns-then-ndfa g c =
    subst (λ (ndfa : Bool). Adds g.S.Sink.written g.S.Sink.room g.S.Sink.faults c.args.out.now c.add.new.out c.args.page.now.items c.add.new.page.items (line_text (treatment_line ndfa)) c.add.result) (sym c.if-ndfa.true)
    (subst (λ (text : List ℕ). Adds g.S.Sink.written g.S.Sink.room g.S.Sink.faults c.args.out.now c.add.new.out c.args.page.now.items c.add.new.page.items text c.add.result) (line_one (codes "treatment") (codes "ndfa") (codes "ndfa") refl) c.add.ensures)

pub returns-else-ndfa : goal.returns-else-ndfa
returns-else-ndfa g c =
    subst (λ (ndfa : Bool). Adds g.S.Sink.written g.S.Sink.room g.S.Sink.faults c.args.out.now c.add-else-ndfa.new.out c.args.page.now.items c.add-else-ndfa.new.page.items (line_text (treatment_line ndfa)) c.add-else-ndfa.result) (sym c.if-ndfa.false)
    (subst (λ (text : List ℕ). Adds g.S.Sink.written g.S.Sink.room g.S.Sink.faults c.args.out.now c.add-else-ndfa.new.out c.args.page.now.items c.add-else-ndfa.new.page.items text c.add-else-ndfa.result) (line_one (codes "treatment") (codes "first") (codes "first") refl) c.add-else-ndfa.ensures)
