use Rattle.std.proofs.Common.{get_or, refl, arith}
use Rattle.hz_checked.proofs.RowSteps.{given_next, row_at}
use Rattle.hz_check.proofs.faults.bypass_rows.give_all.Goals as goal

pub loop-out-preserved : goal.loop-out-preserved
loop-out-preserved c =
    let rows = c.loop-out.rows in
    record {
      len = c.loop-out.invariant.len;
      numbers = λ o i.
          given_next rows.items (get_or c.args.outs.now c.loop-out.out-index 0) _ c.give_in.new.row c.args.outs.now c.loop-out.out-index c.args.ins.now c.args.number o i _
          (omega (arith, rows.ok.0, c.loop-out.invariant.len, c.requires.outs c.loop-out.out-index 0 c.loop-out-test.true)) (row_at rows.items _ c.index_mut-row.result.now (omega (arith, rows.ok.0, c.loop-out.invariant.len, c.requires.outs c.loop-out.out-index 0 c.loop-out-test.true)) c.index_mut-row.ensures.value) c.loop-out-test.true refl
          c.in_ok-give_in.ensures (c.loop-out.invariant.numbers o i);
    }
