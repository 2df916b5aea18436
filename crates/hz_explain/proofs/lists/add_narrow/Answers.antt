use Rattle.std.proofs.Common.{sym, arith}
use Rattle.std.proofs.lemmas.List.{length-take-le}
use Rattle.hz_explain.proofs.lists.add_narrow.Goals as goal

pub slice_bounds-add-length : goal.slice_bounds-add-length
slice_bounds-add-length c = sym (length-take-le 78 c.args.line.now (omega arith))
