use Rattle.std.proofs.Common.{arith}
use Rattle.hz_tabfile.proofs.writing.rows.all_columns.Goals as goal

pub returns : goal.returns
returns c =
    let some = c.requires.start in
    let width = c.requires.width 0 some in
    let wide = c.wide.ensures 0 some in
    omega (arith, some, width, wide)
