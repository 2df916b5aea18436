use Rattle.std.proofs.Common.{ℕ, subst}
use Rattle.arrayvec.specs.ArrayVec.{ArrayVec}
use Rattle.hz_io.specs.Pages.{Adds}
use Rattle.hz_io.proofs.page.add.Goals as goal

pub returns-in-Err : goal.returns-in-Err
returns-in-Err g c =
    subst (λ (page : ArrayVec ℕ). Adds g.S.Sink.written g.S.Sink.room g.S.Sink.faults c.args.out.now c.spill.new.out page.items c.spill.new.page.items c.args.bytes.now c.spill.result) c.in-Err.ensures.err c.spill.ensures
