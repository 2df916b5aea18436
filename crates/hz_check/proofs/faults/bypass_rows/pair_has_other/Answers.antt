use Rattle.std.proofs.Common.{sym, ap, ◌∙◌}
use Rattle.hz_checked.specs.NumberRows.{has_other}
use Rattle.hz_checked.proofs.RowSteps.{row_at}
use Rattle.hz_check.proofs.faults.bypass_rows.pair_has_other.Goals as goal

pub returns : goal.returns
returns c =
    c.has_other.ensures
    ∙ ap (λ row. has_other row c.args.ins.now c.args.number) (c.as_slice-row.ensures.value ∙ sym (row_at c.args.rows.now c.args.out c.index-rows-out.result c.requires c.index-rows-out.is))
