use Rattle.std.proofs.Common.{ap, ◌∙◌, arith}
use Rattle.std.specs.Prelude.{slice_set}
use Rattle.hz_reasons.specs.Holding.{older}
use Rattle.hz_reasons.proofs.HoldingLaws.{changed_next}
use Rattle.hz_reasons.proofs.holders.pass.Goals as goal

pub loop-place-preserved : goal.loop-place-preserved
loop-place-preserved c =
    ap (slice_set c.loop-place.issues c.loop-place.place) c.passed.ensures
    ∙ changed_next (older c.args.cycles) c.args.issues.now c.loop-place.issues c.loop-place.place (record { line = 0; class = 0; number = 0; last = 0; left = 0 }) (omega arith) c.loop-place.invariant
