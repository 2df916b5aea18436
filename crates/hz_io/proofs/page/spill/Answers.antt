use Rattle.std.proofs.Common.{ℕ, List, subst}
use Rattle.hz_io.specs.Pages.{Adds}
use Rattle.hz_io.proofs.Adding.{written_then}
use Rattle.hz_io.proofs.page.spill.Goals as goal

pub returns-in-Ok : goal.returns-in-Ok
returns-in-Ok g c =
    written_then c.hold.new.out c.hold.new.page.items c.args.bytes.now c.hold.result c.in-Ok.ensures.written
    (subst (λ (held : List ℕ). Adds g.S.Sink.written g.S.Sink.room g.S.Sink.faults c.flush.new.out c.hold.new.out held c.hold.new.page.items c.args.bytes.now c.hold.result) c.in-Ok.ensures.empty (c.hold.ensures c.in-Ok.ensures.empty))
