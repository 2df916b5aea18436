use Rattle.std.proofs.Common.{◌++◌, map, ap, sym, ◌∙◌, zero-add}
use Rattle.std.specs.Prelude.{decimal}
use Rattle.std.specs.List.{range_with_len}
use Rattle.std.proofs.lemmas.List.FromFn.{map-range_with_len_more}
use Rattle.hz_explain.specs.Drawing.{cells}
use Rattle.hz_explain.proofs.DrawLaws.{one_cell}
use Rattle.hz_explain.proofs.drawing.add_cycles.Goals as goal

pub loop-cycle-preserved : goal.loop-cycle-preserved
loop-cycle-preserved c =
    let n = c.loop-cycle.cycle in
    let columns = c.args.columns in
    one_cell columns c.args.text.now.items c.loop-cycle.text.items c.add_number_cell.new.text.items (map decimal (range_with_len 0 n)) (decimal n) c.loop-cycle.invariant c.in_ok-add_number_cell.ensures
    ∙ ap (λ texts. c.args.text.now.items ++ cells columns texts) (sym (map-range_with_len_more decimal 0 n n (zero-add n)))
