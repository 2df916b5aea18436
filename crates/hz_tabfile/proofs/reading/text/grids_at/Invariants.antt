use Rattle.std.proofs.Common.{◌≡◌, length}
use Rattle.hz_tabfile.specs.Rests.{left_of}
use Rattle.hz_tabfile.specs.Texts.{grids_read}
use Rattle.hz_tabfile.proofs.reading.text.grids_at.Given as goal

abbrev pub invariant-loop-rest : goal.invariant-loop-rest
invariant-loop-rest l = grids_read (left_of l.rest) ≡ grids_read (left_of l.fn.rest)

abbrev pub decreases-loop-rest : goal.decreases-loop-rest
decreases-loop-rest l = length l.rest.bytes.now
