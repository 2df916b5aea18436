use Rattle.std.proofs.Common.{ℕ, List, Bool, ◌∷◌, codes, sym, subst}
use Rattle.std.specs.List.{flat_map}
use Rattle.std.proofs.lemmas.List.{append-nil}
use Rattle.hz_tabtext_model.specs.Texts.{line_text, asks_lines}
use Rattle.hz_io.specs.Pages.{Adds}
use Rattle.hz_tabfile.proofs.writing.lines.add_asks.Goals as goal

pub returns-then-asked : goal.returns-then-asked
returns-then-asked g c =
    subst (λ (asked : Bool). Adds g.S.Sink.written g.S.Sink.room g.S.Sink.faults c.args.out.now c.add_asked.new.out c.args.page.now.items c.add_asked.new.page.items (flat_map line_text (asks_lines asked c.args.asks.now)) c.add_asked.result) (sym c.if-asked.true)
    (subst (λ (text : List ℕ). Adds g.S.Sink.written g.S.Sink.room g.S.Sink.faults c.args.out.now c.add_asked.new.out c.args.page.now.items c.add_asked.new.page.items text c.add_asked.result) (sym (append-nil (line_text (codes "asks" ∷ c.args.asks.now)))) c.add_asked.ensures)
