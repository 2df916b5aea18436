use Rattle.std.proofs.Common.{◌%◌}
use Rattle.hz_grid.proofs.Units.{HasUnit-shr}
use Rattle.hz_grid.proofs.WordLemmas.{HasUnit-row_of}
use Rattle.hz_grid.proofs.words.holds.Goals as goal

pub returns : goal.returns
returns c =
    let row = HasUnit-row_of c.args.words.now c.args.unit c.requires in
    let bit = HasUnit-shr c.word_at.result (c.args.unit % 64) in
    let same = rw c.word_at.ensures at bit in
    rw c.word_at.ensures (λ t. row.1 (same.0 t), λ h. same.1 (row.0 h))
