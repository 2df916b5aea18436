use Rattle.std.proofs.Common.{ℕ, List, subst}
use Rattle.hz_tabtext_model.specs.Texts.{spelled}
use Rattle.hz_io.specs.Pages.{Added, Stopped}
use Rattle.hz_tabfile.specs.Saying.{says}
use Rattle.hz_io.proofs.Adding.{writes_all, none_stopped}
use Rattle.hz_tabfile.proofs.writing.write_tables.Goals as goal

pub returns-in-Ok-clause-written : goal.returns-in-Ok-clause-written
returns-in-Ok-clause-written g c =
    writes_all c.flush.new.out c.flush.result
    (subst (λ (held : List ℕ). Added g.S.Sink.written g.S.Sink.room g.S.Sink.faults c.args.out.now c.add_tables.new.out held c.add_tables.new.page.items (spelled (says c.args.compiled.now c.args.checked.now))) c.new-page.ensures c.in-Ok.ensures)
    c.flush.ensures.written

pub returns-in-Err-clause-written : goal.returns-in-Err-clause-written
returns-in-Err-clause-written g c =
    none_stopped (subst (λ (held : List ℕ). Stopped g.S.Sink.written g.S.Sink.room g.S.Sink.faults c.args.out.now c.add_tables.new.out held (spelled (says c.args.compiled.now c.args.checked.now))) c.new-page.ensures c.in-Err.ensures)
