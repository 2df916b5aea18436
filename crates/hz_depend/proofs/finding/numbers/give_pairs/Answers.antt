use Rattle.std.proofs.Common.{◌<◌, length, get_or, refl, arith}
use Rattle.hz_checked.proofs.RowSteps.{given_next, row_at}
use Rattle.hz_depend.proofs.finding.numbers.give_pairs.Goals as goal

pub loop-out-preserved : goal.loop-out-preserved
loop-out-preserved c =
    let rows = c.loop-out.rows in
    let outs = c.args.outs.now in
    let k = c.loop-out.out-index in
    let lt : get_or outs k 0 < length rows.items = omega (arith, rows.ok.0, c.loop-out.invariant.len, c.requires.outs k 0 c.loop-out-test.true) in
    record {
      len = c.loop-out.invariant.len;
      numbers = λ o i.
          given_next rows.items (get_or outs k 0) _ c.give_in.new.row outs k c.args.ins.now c.args.number o i _
          lt (row_at rows.items _ c.index_mut-row.result.now lt c.index_mut-row.ensures.value) c.loop-out-test.true refl
          c.in_ok-give_in.ensures (c.loop-out.invariant.numbers o i);
    }
