use Rattle.std.proofs.Common.{arith}
use Rattle.hz_check.specs.Names.Held.{is_held}
use Rattle.hz_check.proofs.Tables.TableSteps.{just_next}
use Rattle.hz_check.proofs.names.tables.add.Goals as goal

pub loop-name-preserved : goal.loop-name-preserved
loop-name-preserved c = λ q.
    just_next c.args.names.now c.loop-name.name-index q c.name-item.result (is_held c.loop-name.table q) (is_held c.put.new.self q) _ c.name-item.is c.loop-name-test.true
    (grind (arith, c.in_ok-put.ensures q)) (c.loop-name.invariant q)
