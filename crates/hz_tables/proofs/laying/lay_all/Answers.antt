use Rattle.std.proofs.Common.{length, ap, arith}
use Rattle.hz_tables.proofs.LayLaws.{laid_none}
use Rattle.hz_tables.proofs.laying.lay_all.Goals as goal

pub loop-state-init : goal.loop-state-init
loop-state-init c =
    let none = ap length c.new-laying.ensures.bases in
    let nowhere = ap length c.new-laying.ensures.owners in record {
      next = omega arith;
      laid = laid_none c.args.plain.now.rows c.args.plain.now.columns _ _ _ c.new-laying.ensures.bases c.new-laying.ensures.owners c.new-laying.ensures.targets;
      few = omega arith;
    }
