use Rattle.std.proofs.Common.{ℕ, List, ap, ◌∙◌, arith}
use Rattle.hz_depend.specs.Lists.{list_at}
use Rattle.hz_depend.specs.Marks.{marked}
use Rattle.hz_depend.specs.Tables.{lists_in}
use Rattle.hz_depend.proofs.MarkLemmas.{marked_flat}
use Rattle.hz_depend.proofs.finding.by_register.ByRegister.mark.Goals as goal

pub loop-register-preserved : goal.loop-register-preserved
loop-register-preserved c = marked_flat (list_at (lists_in c.args.self.now)) c.args.registers.now c.loop-register.register-index 0 c.args.stamp c.loop-register.stamps c.mark.new.stamps _ (omega arith)
    (c.mark.ensures ∙ ap (λ (xs : List ℕ). marked c.loop-register.stamps c.args.stamp xs) c.at.ensures) c.loop-register.invariant
